-- If some certificate holds of two images, the pairs that a walk finds are one that holds.
use Rattle.std.proofs.lemmas.Grind.{common_steps}
use Rattle.std.proofs.Common.{◌≡◌, ◌≢◌, ℕ, zero, suc, ◌+◌, ◌<◌, ◌≤◌, Bool, true, false, cond, not, ◌&&◌, ◌||◌, ◌==◌, List, [], ◌∷◌, length, get_or, Option, Some, None, refl, sym, ◌∙◌, ap, subst, inl, inr, arith}
use Rattle.std.specs.Prelude.{slice_index, slice_index_or, is_some}
use Rattle.std.specs.List.{All, AllPairs, AllZip, list_any, Any}
use Rattle.std.proofs.lemmas.Bool.{eqb-true, eq-eqb, ne_eqb, cases_Bool, and_from, or_right}
use Rattle.std.proofs.lemmas.List.Folds.{Any-from_list_any, list_any_at}
use Rattle.gc_graph.specs.Graph.{Value, Ref}
use Rattle.gc_graph.specs.Correspond.{paired, Corresponding}
use Rattle.gc_words.specs.Word.{read_value, read_correspond, words_correspond}
use Rattle.gc_words.specs.Image.{Image, Block, is_start, block_at, graph_of}
use Rattle.gc_words.specs.Certificate.{BlocksCorrespond, Certified}
use Rattle.gc_words.specs.declared.header.Header.{Header}
use Rattle.gc_words.proofs.Public.{corresponding, no_fault_of_certified, place_of}
use Rattle.std.proofs.lemmas.List.{length-map}
use Rattle.gc_words.specs.Fault.{first_fault}
use Rattle.gc_words.specs.declared.image.Pair.{Pair}
use Rattle.gc_words.specs.declared.refusal.Refusal.{Refusal}
use Rattle.gc_check.specs.Infer.{Certifiable, AreForced, Together, AreTogether}
use Rattle.gc_check.specs.Pairs.{pair_at}
use Rattle.gc_check.specs.Verdict.{pairs_of}
use Rattle.gc_check.specs.declared.meet.Found.{Found}
use Rattle.gc_check.proofs.StartMarks.{low_start}
use Rattle.gc_check.specs.Internal.Tables.{HoldsPartners}
use Rattle.gc_check.specs.Internal.Meetings.{is_free, AllMet, BlocksMet, MetTo, AlikeTo, HoldsFound, originals_in, swapped, risen}
use Rattle.gc_check.proofs.Meetings.{paired_swapped}
use Rattle.gc_check.proofs.Forced.{paired_objects, AreIn}

-- ---- pairs in the order of new addresses

-- the pairs from `at` on, given whether the entry there is 0
abbrev next_risen : Bool → ℕ → ℕ → List ℕ → List (ℕ × ℕ)
next_risen b at original row = cond b (risen (suc at) row) ((original, at) ∷ risen (suc at) row)

length_next : (b : Bool) (at original : ℕ) (row : List ℕ) → length (risen (suc at) row) ≤ length row → length (next_risen b at original row) ≤ suc (length row)
length_next b at original row ih = grind (arith, common_steps)

pub risen_length : (at : ℕ) (row : List ℕ) → length (risen at row) ≤ length row
risen_length at [] = omega arith
risen_length at (original ∷ row) = length_next (original == 0) at original row (risen_length (suc at) row)

-- each pair has an address from `at` on, and the original that the row has there
pub record StandsAt (at : ℕ) (row : List ℕ) (p : ℕ × ℕ) : Type 0 where
  pub place : ℕ
  pub there : p.1 ≡ at + place
  pub entry : slice_index row place ≡ p.0
  pub some : p.0 ≢ 0

stands_later : (at original : ℕ) (row : List ℕ) (p : ℕ × ℕ) → StandsAt (suc at) row p → StandsAt at (original ∷ row) p
stands_later at original row p s = record { place = suc s.place; there = s.there ∙ next; entry = s.entry; some = s.some }
  where
    next : suc at + s.place ≡ at + suc s.place
    next = omega arith

abbrev Stand : ℕ → List ℕ → List (ℕ × ℕ) → Type 0
Stand at row pairs = (k : ℕ) (d : ℕ × ℕ) → k < length pairs → StandsAt at row (get_or pairs k d)

stand_next : (b : Bool) (at original : ℕ) (row : List ℕ) → (original == 0) ≡ b → Stand (suc at) row (risen (suc at) row) → Stand at (original ∷ row) (next_risen b at original row)
stand_next b at original row e ih k d h = grind (arith, common_steps, stands_later, eq-eqb)

risen_stand : (at : ℕ) (row : List ℕ) → Stand at row (risen at row)
risen_stand at [] k d h = absurd (omega arith)
risen_stand at (original ∷ row) k d h = stand_next (original == 0) at original row refl (risen_stand (suc at) row) k d h

rises_next : (b : Bool) (at original : ℕ) (row : List ℕ) → AllPairs (λ p q. p.1 < q.1) (risen (suc at) row) → AllPairs (λ p q. p.1 < q.1) (next_risen b at original row)
rises_next true at original row ih i j d h l = ih i j d h l
rises_next false at original row ih i zero d h l = absurd (omega arith)
rises_next false at original row ih zero (suc j) d h l = let s : StandsAt (suc at) row (get_or (risen (suc at) row) j d) = risen_stand (suc at) row j d (omega arith) in omega (arith, s.there)
rises_next false at original row ih (suc i) (suc j) d h l = ih i j d (omega arith) (omega arith)

pub risen_rises : (at : ℕ) (row : List ℕ) → AllPairs (λ p q. p.1 < q.1) (risen at row)
risen_rises at [] i j d h l = absurd (omega arith)
risen_rises at (original ∷ row) i j d h l = rises_next (original == 0) at original row (risen_rises (suc at) row) i j d h l

has_next : (b : Bool) (at original : ℕ) (row : List ℕ) (a n : ℕ) → paired (risen (suc at) row) a n ≡ true → paired (next_risen b at original row) a n ≡ true
has_next b at original row a n e = grind (arith, common_steps, or_right)

after : (at k : ℕ) → suc at + k ≡ at + suc k
after at k = omega arith

-- the pair of an entry that is not 0
risen_has : (at : ℕ) (row : List ℕ) (k a : ℕ) → slice_index row k ≡ a → a ≢ 0 → paired (risen at row) a (at + k) ≡ true
risen_has at [] k a e some = absurd (some (sym e))
risen_has at (original ∷ row) zero a e some =
    ap (λ b. paired (next_risen b at original row) a (at + 0)) (ne_eqb original 0 (λ z. some (sym e ∙ z)))
    ∙ ap (λ t. t || paired (risen (suc at) row) a (at + 0)) (and_from (original == a) (at == at + 0) (eq-eqb original a e) (eq-eqb at (at + 0) (omega arith)))
risen_has at (original ∷ row) (suc k) a e some =
    has_next (original == 0) at original row a (at + suc k) (subst (λ n. paired (risen (suc at) row) a n ≡ true) (after at k) (risen_has (suc at) row k a e some))

-- ---- the walk has ended, and some certificate holds

module _ (old new : Image) (pairs : List (ℕ × ℕ)) (row : List ℕ) (held : HoldsPartners row (swapped pairs)) where
  -- the pairs in order are the pairs found
  pub found_of_risen : (k : ℕ) (d : ℕ × ℕ) → k < length (risen 0 row) → paired pairs (get_or (risen 0 row) k d).0 (get_or (risen 0 row) k d).1 ≡ true
  found_of_risen k d h =
      let p : ℕ × ℕ = get_or (risen 0 row) k d in
      let s : StandsAt 0 row p = risen_stand 0 row k d h in
      sym (paired_swapped pairs p.0 p.1) ∙ sym (held.pair p.1 p.0 (above p.0 s.some)) ∙ eq-eqb _ _ (ap (slice_index row) (from_0 s.place p.1 s.there) ∙ s.entry)
    where
      from_0 : (place n : ℕ) → n ≡ 0 + place → n ≡ place
      from_0 place n e = omega arith

      above : (n : ℕ) → n ≢ 0 → 1 ≤ n
      above n some = grind (arith, common_steps)

  pub risen_of_found : (a b : ℕ) → 1 ≤ a → paired pairs a b ≡ true → paired (risen 0 row) a b ≡ true
  risen_of_found a b low e = grind (arith, common_steps, eqb-true, paired_swapped, risen_has)

  -- what holds of each pair found holds of each in order
  pub each_risen : (Holds : ℕ × ℕ → Type 0) → ((j : ℕ) → j < length pairs → Holds (pair_at pairs j)) → All Holds (risen 0 row)
  each_risen Holds holds k d h =
      let p : ℕ × ℕ = get_or (risen 0 row) k d in
      let j : (j : ℕ) × (j < length pairs) × ((d : ℕ × ℕ) → slice_index_or pairs j d ≡ (p.0, p.1)) = place_of pairs p.0 p.1 (found_of_risen k d h) in
      subst Holds (j.2 (0, 0)) (holds j.0 j.1)

  module _ (met : MetTo old new pairs (length pairs)) (cert : List (ℕ × ℕ)) (certified : Certified old new cert) (low : (a : ℕ) → is_start old.words a ≡ true → 1 ≤ a) where
    both : Corresponding cert (graph_of old) (graph_of new)
    both = corresponding old new cert certified

    forced : (a b : ℕ) → paired pairs a b ≡ true → paired cert a b ≡ true
    forced a b e = grind (arith, common_steps, place_of)

    has_starts : (o q : Option Block) → BlocksCorrespond cert o q → (is_some o ≡ true) × (is_some q ≡ true)
    has_starts o q c = grind (arith, common_steps)

    -- a pair of the certificate that is taken has been found
    taken_found : (a b : ℕ) → paired cert a b ≡ true → is_free old new pairs a b ≡ false → paired pairs a b ≡ true
    taken_found a b e taken =
        let starts : (is_start old.words a ≡ true) × (is_start new.words b ≡ true) = has_starts (block_at old.words a) (block_at new.words b) (paired_objects old new cert a b certified e) in
        elim (cases_Bool (list_any (λ q. q.0 == a) pairs)) [
          | inl x ↦ (let found : Any (λ q. (q.0 == a) ≡ true) pairs = Any-from_list_any (λ q. q.0 == a) pairs x in
              let here : paired pairs a found.1.1 ≡ true = paired_at pairs found.0 found.1 a found.1.1 found.2 found.3 found.4 (eq-eqb _ _ refl) in
              subst (λ n. paired pairs a n ≡ true) (both.one_right a found.1.1 b (forced a found.1.1 here) e) here)
          | inr x ↦ elim (cases_Bool (list_any (λ q. q.1 == b) pairs)) [
            | inl y ↦ (let found : Any (λ q. (q.1 == b) ≡ true) pairs = Any-from_list_any (λ q. q.1 == b) pairs y in
                let here : paired pairs found.1.0 b ≡ true = paired_at pairs found.0 found.1 found.1.0 b found.2 found.3 (eq-eqb _ _ refl) found.4 in
                subst (λ n. paired pairs n b ≡ true) (both.one_left found.1.0 a b (forced found.1.0 b here) e) here)
            | inr y ↦ absurd (let no : true ≡ false = sym (and_from _ _ (and_from _ _ (and_from _ _ starts.0 starts.1) (ap not x)) (ap not y)) ∙ taken in cc)
          ]
        ]
      where
        paired_at : (pairs : List (ℕ × ℕ)) (k : ℕ) (p : ℕ × ℕ) (a b : ℕ) → k < length pairs → slice_index_or pairs k p ≡ p → (p.0 == a) ≡ true → (p.1 == b) ≡ true → paired pairs a b ≡ true
        paired_at pairs k p a b h e f g = list_any_at (λ q. (q.0 == a) && (q.1 == b)) pairs k p h (ap (λ (q : ℕ × ℕ). (q.0 == a) && (q.1 == b)) e ∙ and_from _ _ f g)

    abbrev now : List (ℕ × ℕ)
    now = risen 0 row

    values_now : (o q : Option Value) → read_correspond cert o q ≡ true → ((a b : ℕ) → o ≡ Some (Ref a) → q ≡ Some (Ref b) → is_free old new pairs a b ≡ false) → read_correspond now o q ≡ true
    values_now o q e h = grind (arith, common_steps, has_starts, paired_objects, risen_of_found, taken_found)

    words_now : (vs ws : List ℕ) → AllZip (λ v w. words_correspond cert v w ≡ true) vs ws → AllMet old new pairs vs ws → AllZip (λ v w. words_correspond now v w ≡ true) vs ws
    words_now [] [] z m = z
    words_now [] (w ∷ ws) z m = z
    words_now (v ∷ vs) [] z m = z
    words_now (v ∷ vs) (w ∷ ws) z m = (values_now (read_value v) (read_value w) z.0 m.0, words_now vs ws z.1 m.1)

    fields_now : (h : Header) (b : Bool) → h.raw ≡ b → (vs ws : List ℕ) → (b ≡ false → AllMet old new pairs vs ws) → AllZip (λ v w. cond b (v == w) (words_correspond cert v w) ≡ true) vs ws → AllZip (λ v w. cond b (v == w) (words_correspond now v w) ≡ true) vs ws
    fields_now h true e vs ws m z = z
    fields_now h false e vs ws m z = words_now vs ws z (m refl)

    blocks_now : (o q : Option Block) → BlocksCorrespond cert o q → BlocksMet old new pairs o q → BlocksCorrespond now o q
    blocks_now (Some a) (Some b) c m = (c.0, fields_now a.header a.header.raw refl a.fields b.fields (m c.0) c.1)
    blocks_now (Some a) None c m = c
    blocks_now None q c m = c

    object_now : (a b : ℕ) → paired pairs a b ≡ true → BlocksCorrespond now (block_at old.words a) (block_at new.words b)
    object_now a b e = grind (arith, common_steps, place_of, blocks_now, paired_objects, forced)

    certified_now : Certified old new now
    certified_now = record {
      old_shaped = certified.old_shaped;
      new_shaped = certified.new_shaped;
      objects = λ k d h. object_now (get_or now k d).0 (get_or now k d).1 (found_of_risen k d h);
      rising = risen_rises 0 row;
      once = λ i j d h l same.
          let less : (get_or now i d).1 < (get_or now j d).1 = risen_rises 0 row i j d h l in
          let x : paired cert (get_or now i d).0 (get_or now i d).1 ≡ true = forced _ _ (found_of_risen i d (omega arith)) in
          let y : paired cert (get_or now j d).0 (get_or now j d).1 ≡ true = forced _ _ (found_of_risen j d l) in
          let one : (get_or now i d).1 ≡ (get_or now j d).1 = both.one_right (get_or now i d).0 (get_or now i d).1 (get_or now j d).1 x (subst (λ n. paired cert n (get_or now j d).1 ≡ true) (sym same) y) in
          absurd (omega arith);
      roots = words_now old.roots new.roots certified.roots met.roots;
    }

    forced_now : AreIn cert now
    forced_now k d h = forced (get_or now k d).0 (get_or now k d).1 (found_of_risen k d h)

-- ---- answers

-- the pairs that a walk over both images found, and the same pairs in order
pub record HasFound (old new : Image) (found : Found) (are_alike : Bool) (cert : List Pair) : Type 0 where
  pub held : HoldsFound old new found
  pub met : MetTo old new (pairs_of found.pairs.items) (length (pairs_of found.pairs.items))
  pub alike : are_alike ≡ true → AlikeTo old new (pairs_of found.pairs.items) (length (pairs_of found.pairs.items))
  pub rise : pairs_of cert ≡ risen 0 (originals_in new found)

pub has_found : (old new old_seen new_seen : Image) (found : Found) (alike : Bool) (cert : List Pair) → old_seen ≡ old → new_seen ≡ new
    → HoldsFound old_seen new_seen found → MetTo old_seen new_seen (pairs_of found.pairs.items) (length found.pairs.items)
    → (alike ≡ true → AlikeTo old_seen new_seen (pairs_of found.pairs.items) (length found.pairs.items)) → pairs_of cert ≡ risen 0 (originals_in new_seen found) → HasFound old new found alike cert
has_found old new old_seen new_seen found alike cert old_is new_is held met both rise = grind (arith, common_steps, length-map)

module _ (old new : Image) (found : Found) (alike : Bool) (cert : List Pair) (k : HasFound old new found alike cert) where
  low_here : (a : ℕ) → is_start old.words a ≡ true → 1 ≤ a
  low_here a start = low_start old.words a k.held.old_entries.walked start

  pub pairs_are_forced : AreForced old new (pairs_of cert)
  pairs_are_forced = λ other certified. subst (AreIn other) (sym k.rise) (forced_now old new (pairs_of found.pairs.items) (originals_in new found) k.held.originals k.met other certified low_here)

  pub pairs_together : AreTogether old new (pairs_of cert)
  pairs_together = subst (AreTogether old new) (sym k.rise) (each_risen old new (pairs_of found.pairs.items) (originals_in new found) k.held.originals (λ p. Together old new p.0 p.1) (λ j within. k.met.together j (0, 0) within))

  pub pairs_hold : Certifiable old new → Certified old new (pairs_of cert)
  pairs_hold some = subst (Certified old new) (sym k.rise) (certified_now old new (pairs_of found.pairs.items) (originals_in new found) k.held.originals k.met some.0 some.1 low_here)

-- a refusal of these pairs is one of all
pub refused_of_all : (old new : Image) (pairs : List (ℕ × ℕ)) (refusal : Refusal) → (Certifiable old new → Certified old new pairs) → first_fault old new pairs ≡ Some refusal → Certifiable old new → ⊥
refused_of_all old new pairs refusal complete e some = let no : None ≡ Some refusal = sym (no_fault_of_certified old new pairs (complete some)) ∙ e in cc
