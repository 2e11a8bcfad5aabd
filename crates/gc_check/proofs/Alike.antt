-- Words that correspond as they meet still correspond when more pairs are found.
use Rattle.std.proofs.lemmas.Grind.{common_steps}
use Rattle.std.proofs.Common.{◌≡◌, ℕ, ◌+◌, ◌<◌, ◌≤◌, Bool, true, false, cond, ◌&&◌, ◌==◌, List, [], ◌∷◌, ◌++◌, length, drop, Option, Some, None, refl, sym, ap, subst, inl, inr, arith}
use Rattle.std.specs.List.{AllZip}
use Rattle.std.proofs.lemmas.Bool.{eq-eqb, cases_order, and_parts, or_cases, or_left, or_right}
use Rattle.std.proofs.lemmas.List.{drop_all, get_or_append_left}
use Rattle.gc_graph.specs.Correspond.{paired}
use Rattle.gc_words.specs.Word.{words_correspond, field_words_correspond}
use Rattle.gc_words.specs.Image.{Image, Block, block_at}
use Rattle.gc_words.specs.Certificate.{BlocksCorrespond}
use Rattle.gc_words.specs.declared.header.Header.{Header}
use Rattle.gc_check.specs.Pairs.{pair_at}
use Rattle.gc_check.specs.Internal.Meetings.{met, met_all, met_objects, alike_all, AlikeTo}
use Rattle.gc_check.proofs.Forced.{Grows, met_all_grows, met_blocks_grow}

-- ---- more pairs

module _ (before after : List (ℕ × ℕ)) (more : (a b : ℕ) → paired before a b ≡ true → paired after a b ≡ true) where
  words_more : (v w : ℕ) → words_correspond before v w ≡ true → words_correspond after v w ≡ true
  words_more v w e = grind (arith, common_steps)

  pub all_more : (vs ws : List ℕ) → AllZip (λ v w. words_correspond before v w ≡ true) vs ws → AllZip (λ v w. words_correspond after v w ≡ true) vs ws
  all_more [] [] z = tt
  all_more [] (w ∷ ws) z = absurd z
  all_more (v ∷ vs) [] z = absurd z
  all_more (v ∷ vs) (w ∷ ws) z = (words_more v w z.0, all_more vs ws z.1)

  field_more : (raw : Bool) (v w : ℕ) → cond raw (v == w) (words_correspond before v w) ≡ true → cond raw (v == w) (words_correspond after v w) ≡ true
  field_more raw v w e = grind (arith, common_steps, words_more)

  fields_more : (h : Header) (vs ws : List ℕ) → AllZip (λ v w. field_words_correspond h before v w ≡ true) vs ws → AllZip (λ v w. field_words_correspond h after v w ≡ true) vs ws
  fields_more h [] [] z = tt
  fields_more h [] (w ∷ ws) z = absurd z
  fields_more h (v ∷ vs) [] z = absurd z
  fields_more h (v ∷ vs) (w ∷ ws) z = (field_more h.raw v w z.0, fields_more h vs ws z.1)

  pub blocks_more : (o q : Option Block) → BlocksCorrespond before o q → BlocksCorrespond after o q
  blocks_more (Some a) (Some b) c = (c.0, fields_more a.header a.fields b.fields c.1)
  blocks_more (Some a) None c = absurd c
  blocks_more None q c = absurd c

paired_append : (pairs more : List (ℕ × ℕ)) (a b : ℕ) → paired pairs a b ≡ true → paired (pairs ++ more) a b ≡ true
paired_append [] more a b e = absurd (let no : false ≡ true = e in cc)
paired_append (p ∷ pairs) more a b e =
    elim (or_cases ((p.0 == a) && (p.1 == b)) (paired pairs a b) e) [
      | inl here ↦ or_left _ _ here
      | inr later ↦ or_right ((p.0 == a) && (p.1 == b)) _ (paired_append pairs more a b later)
    ]

grows_paired : (before after : List (ℕ × ℕ)) → Grows before after → (a b : ℕ) → paired before a b ≡ true → paired after a b ≡ true
grows_paired before after g a b e = subst (λ pairs. paired pairs a b ≡ true) (sym g.1) (paired_append before g.0 a b e)

-- ---- words that have met

pub alike_zip : (old new : Image) (pairs : List (ℕ × ℕ)) (vs ws : List ℕ) → alike_all old new pairs vs ws ≡ true → AllZip (λ v w. words_correspond (met_all old new pairs vs ws) v w ≡ true) vs ws
alike_zip old new pairs [] [] e = tt
alike_zip old new pairs [] (w ∷ ws) e = absurd (let no : false ≡ true = e in cc)
alike_zip old new pairs (v ∷ vs) [] e = absurd (let no : false ≡ true = e in cc)
alike_zip old new pairs (v ∷ vs) (w ∷ ws) e =
    let now : List (ℕ × ℕ) = met old new pairs v w in
    let parts : (words_correspond now v w ≡ true) × (alike_all old new now vs ws ≡ true) = and_parts _ _ e in
    (words_more now (met_all old new now vs ws) (grows_paired now (met_all old new now vs ws) (met_all_grows old new now vs ws)) v w parts.0, alike_zip old new now vs ws parts.1)

-- nothing is left to meet
pub all_ended : (old new : Image) (pairs : List (ℕ × ℕ)) (i : ℕ) (vs ws : List ℕ) → length vs ≤ i → length vs ≡ length ws → alike_all old new pairs (drop i vs) (drop i ws) ≡ true
all_ended old new pairs i vs ws past same = λ j. alike_all old new pairs (drop_all i vs past j) (drop_all i ws (omega (arith, past, same)) j)

pub met_ended : (old new : Image) (pairs : List (ℕ × ℕ)) (i : ℕ) (vs ws : List ℕ) → length vs ≤ i → met_all old new pairs (drop i vs) (drop i ws) ≡ pairs
met_ended old new pairs i vs ws past = ap (λ vs. met_all old new pairs vs (drop i ws)) (drop_all i vs past)

-- ---- objects

equal_raw : (vs : List ℕ) → AllZip (λ v w. (v == w) ≡ true) vs vs
equal_raw [] = tt
equal_raw (v ∷ vs) = (eq-eqb v v refl, equal_raw vs)

pub raw_correspond : (pairs : List (ℕ × ℕ)) (o q : Option Block) (h : Header) (vs ws : List ℕ) → o ≡ Some (record { header = h; fields = vs }) → q ≡ Some (record { header = h; fields = ws }) → h.raw ≡ true → vs ≡ ws → BlocksCorrespond pairs o q
raw_correspond pairs o q h vs ws o_is q_is raw same =
    subst (λ o. BlocksCorrespond pairs o q) (sym o_is) (subst (λ q. BlocksCorrespond pairs (Some (record { header = h; fields = vs })) q) (sym q_is)
    (refl, subst (λ b. AllZip (λ v w. cond b (v == w) (words_correspond pairs v w) ≡ true) vs ws) (sym raw) (subst (λ ws. AllZip (λ v w. (v == w) ≡ true) vs ws) same (equal_raw vs))))

pub values_correspond : (pairs : List (ℕ × ℕ)) (o q : Option Block) (h : Header) (vs ws : List ℕ) → o ≡ Some (record { header = h; fields = vs }) → q ≡ Some (record { header = h; fields = ws }) → h.raw ≡ false
    → AllZip (λ v w. words_correspond pairs v w ≡ true) vs ws → BlocksCorrespond pairs o q
values_correspond pairs o q h vs ws o_is q_is raw z =
    subst (λ o. BlocksCorrespond pairs o q) (sym o_is) (subst (λ q. BlocksCorrespond pairs (Some (record { header = h; fields = vs })) q) (sym q_is)
    (refl, subst (λ b. AllZip (λ v w. cond b (v == w) (words_correspond pairs v w) ≡ true) vs ws) (sym raw) z))

-- ---- the walk

pub objects_alike : (old new : Image) (pairs : List (ℕ × ℕ)) (done : ℕ) → done < length pairs → AlikeTo old new pairs done
    → BlocksCorrespond (met_objects old new pairs (pair_at pairs done)) (block_at old.words (pair_at pairs done).0) (block_at new.words (pair_at pairs done).1) → AlikeTo old new (met_objects old new pairs (pair_at pairs done)) (done + 1)
objects_alike old new pairs done inside m c = record {
  roots = all_more pairs now more old.roots new.roots m.roots;
  objects = objects;
}
  where
    p : ℕ × ℕ
    p = pair_at pairs done

    now : List (ℕ × ℕ)
    now = met_objects old new pairs p

    grows : Grows pairs now
    grows = met_blocks_grow old new pairs (block_at old.words p.0) (block_at new.words p.1)

    more : (a b : ℕ) → paired pairs a b ≡ true → paired now a b ≡ true
    more = grows_paired pairs now grows

    Alike : ℕ × ℕ → Type 0
    Alike p = BlocksCorrespond now (block_at old.words p.0) (block_at new.words p.1)

    objects : (k : ℕ) → k < done + 1 → k < length now → Alike (pair_at now k)
    objects k h l = grind (arith, common_steps, Alike, get_or_append_left, now, grows, cases_order, blocks_more, more)
