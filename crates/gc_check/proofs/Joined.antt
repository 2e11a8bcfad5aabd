-- The pairs found, in the order of their new addresses: they have a table of partners, and lead to no further pair.
use Rattle.std.proofs.lemmas.Grind.{common_steps}
use Rattle.std.specs.Option.{option_map, option_map_or}
use Rattle.std.proofs.Common.{◌≡◌, ℕ, zero, suc, ◌<◌, ◌≤◌, ◌^◌, Bool, true, false, not, ◌&&◌, ◌==◌, List, [], ◌∷◌, length, get_or, Option, Some, None, refl, sym, ◌∙◌, ap, subst, inl, inr, arith, rules}
use Rattle.std.specs.List.{All, AllPairs, list_any}
use Rattle.std.proofs.lemmas.Bool.{eqb-true, eq-eqb, and_from, or_cases, or_left, or_right}
use Rattle.std.proofs.lemmas.List.Folds.{list_any_at}
use Rattle.gc_graph.specs.Correspond.{paired}
use Rattle.gc_words.specs.Word.{read_value}
use Rattle.gc_words.specs.Image.{Image, Block, IsShaped, is_start, block_at}
use Rattle.gc_words.specs.Certificate.{BlocksCorrespond, Certified}
use Rattle.gc_words.specs.Fault.{shape_fault, table_fault, first_fault, AreComparable}
use Rattle.gc_words.specs.declared.refusal.Refusal.{Refusal}
use Rattle.gc_words.specs.declared.refusal.Refusal.TheVariants.{OldShape, NewShape}
use Rattle.gc_words.proofs.Public.{Later, none_or, none_when, places_hold, no_shape_fault, shaped, place_of}
use Rattle.gc_words.specs.declared.image.Pair.{Pair}
use Rattle.gc_check.specs.Infer.{is_taken, LeadsToPairs, ObjectsLeadToPairs, AreClosed, Certifiable, Decides}
use Rattle.gc_check.specs.Internal.Tables.{HoldsPartners, HasTables}
use Rattle.gc_check.specs.Internal.Meetings.{is_free, AllMet, BlocksMet, ObjectsMet, MetTo, AlikeTo, partners_in, originals_in, swapped, risen}
use Rattle.gc_check.specs.Headline.{Replicated}
use Rattle.gc_check.specs.Verdict.{pairs_of, verdict_of, IsRefusalOf}
use Rattle.gc_check.specs.declared.verdict.Verdict.{Verdict}
use Rattle.gc_check.specs.declared.verdict.Verdict.TheVariants as verdicts
use Rattle.gc_check.specs.declared.meet.Found.{Found}
use Rattle.gc_check.specs.declared.verdict.CheckFault.{CheckFault}
use Rattle.gc_check.specs.declared.verdict.CheckFault.TheVariants.{Refused}
use Rattle.gc_check.proofs.Alike.{all_more, blocks_more}
use Rattle.gc_check.proofs.StartMarks.{low_start}
use Rattle.gc_check.proofs.ByAddress.{length_by_address}
use Rattle.gc_check.proofs.Inferred.{HasFound, each_risen, found_of_risen, risen_of_found, risen_rises, risen_length, refused_of_all}

-- ---- addresses of pairs

first_of : (pairs : List (ℕ × ℕ)) (a b : ℕ) → paired pairs a b ≡ true → list_any (λ q. q.0 == a) pairs ≡ true
first_of pairs a b e =
    let k : (k : ℕ) × (k < length pairs) × ((d : ℕ × ℕ) → get_or pairs k d ≡ (a, b)) = place_of pairs a b e in
    list_any_at (λ q. q.0 == a) pairs k.0 (a, b) k.1 (eq-eqb _ a (ap (λ (p : ℕ × ℕ). p.0) (k.2 (a, b))))

second_of : (pairs : List (ℕ × ℕ)) (a b : ℕ) → paired pairs a b ≡ true → list_any (λ q. q.1 == b) pairs ≡ true
second_of pairs a b e =
    let k : (k : ℕ) × (k < length pairs) × ((d : ℕ × ℕ) → get_or pairs k d ≡ (a, b)) = place_of pairs a b e in
    list_any_at (λ q. q.1 == b) pairs k.0 (a, b) k.1 (eq-eqb _ b (ap (λ (p : ℕ × ℕ). p.1) (k.2 (a, b))))

pair_of_first : (pairs : List (ℕ × ℕ)) (a : ℕ) → list_any (λ q. q.0 == a) pairs ≡ true → (b : ℕ) × (paired pairs a b ≡ true)
pair_of_first [] a e = absurd (let no : false ≡ true = e in cc)
pair_of_first (p ∷ pairs) a e =
    elim (or_cases (p.0 == a) (list_any (λ q. q.0 == a) pairs) e) [
      | inl here ↦ (p.1, or_left _ (paired pairs a p.1) (and_from _ _ here (eq-eqb p.1 p.1 refl)))
      | inr later ↦ (let found : (b : ℕ) × (paired pairs a b ≡ true) = pair_of_first pairs a later in (found.0, or_right ((p.0 == a) && (p.1 == found.0)) _ found.1))
    ]

pub pair_of_second : (pairs : List (ℕ × ℕ)) (b : ℕ) → list_any (λ q. q.1 == b) pairs ≡ true → (a : ℕ) × (paired pairs a b ≡ true)
pair_of_second [] b e = absurd (let no : false ≡ true = e in cc)
pair_of_second (p ∷ pairs) b e =
    elim (or_cases (p.1 == b) (list_any (λ q. q.1 == b) pairs) e) [
      | inl here ↦ (p.0, or_left _ (paired pairs p.0 b) (and_from _ _ (eq-eqb p.0 p.0 refl) here))
      | inr later ↦ (let found : (a : ℕ) × (paired pairs a b ≡ true) = pair_of_second pairs b later in (found.0, or_right ((p.0 == found.0) && (p.1 == b)) _ found.1))
    ]

-- ---- the pairs found, and the same pairs in order

module _ (old new : Image) (pairs : List (ℕ × ℕ)) (row partners : List ℕ) (held : HoldsPartners row (swapped pairs)) (table : HoldsPartners partners pairs)
    (met : MetTo old new pairs (length pairs)) (low : (a : ℕ) → is_start old.words a ≡ true → 1 ≤ a) (new_low : (b : ℕ) → is_start new.words b ≡ true → 1 ≤ b) where
  abbrev now : List (ℕ × ℕ)
  now = risen 0 row

  starts_at : (a b : ℕ) → paired pairs a b ≡ true → (is_start old.words a ≡ true) × (is_start new.words b ≡ true)
  starts_at a b e = search (rules, place_of)

  to_now : (a b : ℕ) → paired pairs a b ≡ true → paired now a b ≡ true
  to_now a b e = risen_of_found old new pairs row held a b (low a (starts_at a b e).0) e

  from_now : (a b : ℕ) → paired now a b ≡ true → paired pairs a b ≡ true
  from_now a b e =
      let k : (k : ℕ) × (k < length now) × ((d : ℕ × ℕ) → get_or now k d ≡ (a, b)) = place_of now a b e in
      subst (λ (p : ℕ × ℕ). paired pairs p.0 p.1 ≡ true) (k.2 (a, b)) (found_of_risen old new pairs row held k.0 (a, b) k.1)

  same_pairs : (a b : ℕ) → paired pairs a b ≡ paired now a b
  same_pairs a b = grind (arith, common_steps, to_now, from_now)

  same_seconds : (b : ℕ) → list_any (λ q. q.1 == b) pairs ≡ list_any (λ q. q.1 == b) now
  same_seconds b = grind (arith, common_steps, pair_of_second, second_of, to_now, from_now)

  -- ---- their table

  one_partner : (a b c : ℕ) → paired pairs a b ≡ true → paired pairs a c ≡ true → b ≡ c
  one_partner a b c e f = grind (arith, common_steps, eqb-true, starts_at)

  later : AllPairs Later now
  later i j d h l =
      let rise : (get_or now i d).1 < (get_or now j d).1 = risen_rises 0 row i j d h l in
      let x : paired pairs (get_or now i d).0 (get_or now i d).1 ≡ true = found_of_risen old new pairs row held i d (omega arith) in
      let y : paired pairs (get_or now j d).0 (get_or now j d).1 ≡ true = found_of_risen old new pairs row held j d l in
      (λ same. let one : (get_or now i d).1 ≡ (get_or now j d).1 = one_partner (get_or now i d).0 (get_or now i d).1 (get_or now j d).1 x (subst (λ n. paired pairs n (get_or now j d).1 ≡ true) (sym same) y) in absurd (omega arith), rise)

  join_starts : All (λ p. (is_start old.words p.0 ≡ true) × (is_start new.words p.1 ≡ true)) now
  join_starts k d h = starts_at (get_or now k d).0 (get_or now k d).1 (found_of_risen old new pairs row held k d h)

  placed : shape_fault old ≡ None → shape_fault new ≡ None → length old.roots ≡ length new.roots → table_fault old new now ≡ None
  placed old_shaped new_shaped roots =
      none_or _ _ (none_or _ _ (none_or _ _ (ap (λ o. option_map (λ at. OldShape at) o) old_shaped) (ap (λ o. option_map (λ at. NewShape at) o) new_shaped)) (none_when _ _ (ap not (eq-eqb _ _ roots))))
      (places_hold old new now now [] 0 refl refl later join_starts)

  -- ---- they hold if all words that have met correspond

  alike_hold : IsShaped old → IsShaped new → AlikeTo old new pairs (length pairs) → Certified old new now
  alike_hold old_shaped new_shaped alike = record {
    old_shaped = old_shaped;
    new_shaped = new_shaped;
    objects = λ k d h. blocks_more pairs now to_now (block_at old.words (get_or now k d).0) (block_at new.words (get_or now k d).1)
        (each_risen old new pairs row held (λ p. BlocksCorrespond pairs (block_at old.words p.0) (block_at new.words p.1)) (λ j within. alike.objects j within within) k d h);
    rising = risen_rises 0 row;
    once = λ i j d h l. (later i j d h l).0;
    roots = all_more pairs now to_now old.roots new.roots alike.roots;
  }

  -- ---- they are closed

  taken_now : (a b : ℕ) → is_start old.words a ≡ true → is_start new.words b ≡ true → is_free old new pairs a b ≡ false → is_taken now a b ≡ true
  taken_now a b s t taken = grind (arith, common_steps, pair_of_first, first_of, to_now, from_now, same_seconds)

  lead : (vs ws : List ℕ) → AllMet old new pairs vs ws → LeadsToPairs old new now vs ws
  lead [] ws m i v w e f = absurd (let no : None ≡ Some v = e in cc)
  lead (x ∷ vs) [] m i v w e f = absurd (let no : None ≡ Some w = f in cc)
  lead (x ∷ vs) (y ∷ ws) m zero v w e f =
      let v_is : x ≡ v = (let same : Some x ≡ Some v = e in cc) in
      let w_is : y ≡ w = (let same : Some y ≡ Some w = f in cc) in
      λ a b g h s t. taken_now a b s t (m.0 a b (ap read_value v_is ∙ g) (ap read_value w_is ∙ h))
  lead (x ∷ vs) (y ∷ ws) m (suc i) v w e f = lead vs ws m.1 i v w e f

  objects_lead : (o q : Option Block) → BlocksMet old new pairs o q → ObjectsLeadToPairs old new now o q
  objects_lead o q m = grind (arith, common_steps, lead)

  found_are_closed : AreClosed old new now
  found_are_closed = record {
    roots = lead old.roots new.roots met.roots;
    objects = λ k d h. objects_lead (block_at old.words (get_or now k d).0) (block_at new.words (get_or now k d).1) (each_risen old new pairs row held (ObjectsMet old new pairs) (λ j within. met.objects j within within) k d h);
  }

-- ---- answers

module _ (old new : Image) (found : Found) (alike : Bool) (cert : List Pair) (k : HasFound old new found alike cert) where
  old_low : (a : ℕ) → is_start old.words a ≡ true → 1 ≤ a
  old_low a start = low_start old.words a k.held.old_entries.walked start

  new_low : (b : ℕ) → is_start new.words b ≡ true → 1 ≤ b
  new_low b start = low_start new.words b k.held.new_entries.walked start

  pub pairs_have_tables : shape_fault old ≡ None → shape_fault new ≡ None → length old.roots ≡ length new.roots → length new.words < 2 ^ 32 → HasTables (record { old = old; new = new; pairs = pairs_of cert }) found.partners
  pairs_have_tables old_shaped new_shaped roots few = grind (arith, common_steps, risen_length, length_by_address, old_low, new_low, placed, same_pairs, pair_of_first, first_of, to_now, from_now)

  pub pairs_hold_if_alike : shape_fault old ≡ None → shape_fault new ≡ None → alike ≡ true → Certified old new (pairs_of cert)
  pairs_hold_if_alike old_shaped new_shaped same = subst (Certified old new) (sym k.rise)
      (alike_hold old new (pairs_of found.pairs.items) (originals_in new found) (partners_in old found) k.held.originals k.held.partners k.met old_low new_low (shaped old old_shaped) (shaped new new_shaped) (k.alike same))

  pub pairs_are_closed : AreClosed old new (pairs_of cert)
  pairs_are_closed = grind (arith, common_steps, found_are_closed, old_low, new_low)

-- ---- images that cannot be compared

pub old_is_shaped : (old new : Image) (fault : CheckFault) (refusal : Refusal) → IsRefusalOf (option_map (λ at. OldShape at) (shape_fault old)) fault → fault ≡ Refused refusal → AreComparable old new → ⊥
old_is_shaped old new fault refusal is same both = grind (arith, common_steps, no_shape_fault)

pub new_is_shaped : (old new : Image) (fault : CheckFault) (refusal : Refusal) → IsRefusalOf (option_map (λ at. NewShape at) (shape_fault new)) fault → fault ≡ Refused refusal → AreComparable old new → ⊥
new_is_shaped old new fault refusal is same both = grind (arith, common_steps, no_shape_fault)

-- the verdict on pairs that hold if any do
pub decided : (old new : Image) (pairs : List (ℕ × ℕ)) (verdict : Verdict) → verdict ≡ verdict_of old new pairs → (Certifiable old new → Certified old new pairs) → (first_fault old new pairs ≡ None → Certified old new pairs)
    → (Certified old new pairs → Replicated old new pairs) → Decides verdict old new pairs
decided old new pairs verdict is complete certified replicated = subst (λ verdict. Decides verdict old new pairs) (sym is) (by_fault (first_fault old new pairs) refl)
  where
    by_fault : (first : Option Refusal) → first_fault old new pairs ≡ first → Decides (option_map_or verdicts.Refused first (verdicts.Yes (length pairs))) old new pairs
    by_fault None e = (certified e, replicated (certified e))
    by_fault (Some refusal) e = refused_of_all old new pairs refusal complete e
