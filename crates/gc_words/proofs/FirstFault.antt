-- The conditions that hold before the first fault.
use Rattle.std.proofs.lemmas.Grind.{common_steps}
use Rattle.std.specs.Bool.{then_some}
use Rattle.std.specs.Option.{option_map}
use Rattle.std.proofs.Common.{◌≡◌, ℕ, suc, ◌<◌, Bool, true, false, not, ◌==◌, List, [], ◌∷◌, ◌++◌, length, Option, Some, None, refl, sym, ◌∙◌, ap, subst, arith, append_assoc}
use Rattle.std.specs.List.{All, list_any}
use Rattle.std.proofs.lemmas.Bool.{eqb-true, eqb-false, ne_eqb, both_ways}
use Rattle.std.proofs.lemmas.List.Elements.{All-nil, All-head, All-tail, All-push, All-weaker, recursion_from_All}
use Rattle.std.proofs.lemmas.List.Quantifiers.{all_pairs_push}
use Rattle.std.proofs.lemmas.List.Folds.{list_any_none}
use Rattle.gc_words.specs.Word.{words_correspond}
use Rattle.gc_words.specs.Image.{Image, Block, block_at, is_start}
use Rattle.gc_words.specs.Certificate.{BlocksCorrespond}
use Rattle.gc_words.specs.Fault.{◌or_else◌, shape_fault, first_over_pairs, not_above_last, place_fault, place_faults, first_difference, block_fault, pair_fault, object_faults, first_fault, PairAt, AreComparable, ArePlaced, ObjectsMatch, HeadersDiffer, FieldsDifferAt, PlaceFails, ObjectFails, IsFirstFault}
use Rattle.gc_words.specs.declared.refusal.Refusal.{Refusal}
use Rattle.gc_words.specs.declared.refusal.Refusal.TheVariants.{OldShape, NewShape, RootCount, OldNotStart, NewNotStart, NotRising, Twice, HeaderDiffers, FieldDiffers, RootDiffers}
use Rattle.gc_words.proofs.Faults.{shaped, LastIsHighest, pushed_highest, none_same, above_all, no_block_fault, header_same, same_header_of, first_taken, one_longer, place_faults_from, no_place_faults, no_object_faults}

-- ---- places

module _ (old new : Image) (pairs : List (ℕ × ℕ)) where
  abbrev Start : ℕ × ℕ → Type 0
  Start p = (is_start old.words p.0 ≡ true) × (is_start new.words p.1 ≡ true)

  place_fails : (r : Refusal) (rest before : List (ℕ × ℕ)) (k : ℕ) → before ++ rest ≡ pairs → length before ≡ k → ArePlaced old new before → LastIsHighest before
      → place_faults_from old new pairs k rest ≡ Some r → PlaceFails old new pairs r
  place_fails r [] before k whole count placed highest e = absurd cc
  place_fails r (p ∷ rest) before k whole count placed highest e =
      go (λ starts fc fd f. place_fails r rest (before ++ p ∷ []) (suc k) (append_assoc before (p ∷ []) rest ∙ whole) (one_longer before p k count) (next starts fc fd) (pushed_highest before p (highest p.1 fc)) f)
      (is_start old.words p.0) refl (is_start new.words p.1) refl (not_above_last before p.1) refl (list_any (λ q. q.0 == p.0) before) refl
      (subst (λ some. (place_fault old new some k p or_else place_faults_from old new pairs (suc k) rest) ≡ Some r) (first_taken pairs before (p ∷ rest) k whole count) e)
    where
      next : Start p → not_above_last before p.1 ≡ false → list_any (λ q. q.0 == p.0) before ≡ false → ArePlaced old new (before ++ p ∷ [])
      next starts fc fd = grind (arith, common_steps, All-push, all_pairs_push, none_same)

      Again : Type 0
      Again = Start p → not_above_last before p.1 ≡ false → list_any (λ q. q.0 == p.0) before ≡ false
          → place_faults_from old new pairs (suc k) rest ≡ Some r → PlaceFails old new pairs r

      at : (P : List (ℕ × ℕ) → ℕ × ℕ → Type 0) → P before p → PairAt pairs k P
      at P h = record { before = before; pair = p; rest = rest; whole = sym whole; place = count; holds = h }

      go : Again → (a : Bool) → is_start old.words p.0 ≡ a → (b : Bool) → is_start new.words p.1 ≡ b → (c : Bool) → not_above_last before p.1 ≡ c → (d : Bool) → list_any (λ q. q.0 == p.0) before ≡ d
          → ((then_some (not a) (OldNotStart k) or_else then_some (not b) (NewNotStart k) or_else then_some c (NotRising k) or_else then_some d (Twice k)) or_else place_faults_from old new pairs (suc k) rest) ≡ Some r
          → PlaceFails old new pairs r
      go again a fa b fb c fc d fd e = grind (arith, common_steps, at, both_ways, above_all, recursion_from_All, list_any_none, All-weaker, ne_eqb)

-- ---- objects

module _ (old new : Image) (pairs : List (ℕ × ℕ)) where
  abbrev Object : ℕ × ℕ → Type 0
  Object p = BlocksCorrespond pairs (block_at old.words p.0) (block_at new.words p.1)

  -- the fault of the two objects of pair k
  abbrev PairFails : ℕ → Option Block → Option Block → Refusal → Type 0
  PairFails k a b (HeaderDiffers j) = (j ≡ k) × HeadersDiffer a b
  PairFails k a b (FieldDiffers j i) = (j ≡ k) × FieldsDifferAt pairs i a b
  PairFails k a b refusal = ⊥

  block_fails : (k : ℕ) (a b : Option Block) (r : Refusal) → block_fault pairs k a b ≡ Some r → PairFails k a b r
  block_fails k a b r e = grind (arith, common_steps, header_same, both_ways, same_header_of)

  object_fails : (r : Refusal) (rest before : List (ℕ × ℕ)) (k : ℕ) → length before ≡ k → All (Start old new pairs) rest → ObjectsMatch old new pairs before
      → first_over_pairs (pair_fault old new pairs) k rest ≡ Some r → (whole : List (ℕ × ℕ)) → whole ≡ before ++ rest → pairs ≡ whole → ObjectFails old new pairs r
  object_fails r [] before k count starts match e whole is all = absurd cc
  object_fails r (p ∷ rest) before k count starts match e whole is all =
      go (λ match f. object_fails r rest (before ++ p ∷ []) (suc k) (one_longer before p k count) (All-tail (Start old new pairs) p rest starts) match f whole (is ∙ sym (append_assoc before (p ∷ []) rest)) all)
      (pair_fault old new pairs k p) refl e
    where
      start : Start old new pairs p
      start = All-head (Start old new pairs) p rest starts

      at : (P : List (ℕ × ℕ) → ℕ × ℕ → Type 0) → (j : ℕ) → j ≡ k → P before p → PairAt pairs j P
      at P j same h = record { before = before; pair = p; rest = rest; whole = all ∙ is; place = count ∙ sym same; holds = h }

      fails : (q : Refusal) → PairFails k (block_at old.words p.0) (block_at new.words p.1) q → ObjectFails old new pairs q
      fails q h = grind (arith, common_steps, at)

      go : (ObjectsMatch old new pairs (before ++ p ∷ []) → first_over_pairs (pair_fault old new pairs) (suc k) rest ≡ Some r → ObjectFails old new pairs r)
          → (f : Option Refusal) → pair_fault old new pairs k p ≡ f → (f or_else first_over_pairs (pair_fault old new pairs) (suc k) rest) ≡ Some r → ObjectFails old new pairs r
      go again f h e = grind (arith, common_steps, All-push, no_block_fault, start, fails, block_fails)

  -- ---- all of them

  pub first_fails : (r : Refusal) → first_fault old new pairs ≡ Some r → IsFirstFault old new pairs r
  first_fails r e = go (shape_fault old) refl (shape_fault new) refl (length old.roots == length new.roots) refl (place_faults old new pairs) refl (object_faults old new pairs) refl (first_difference (words_correspond pairs) 0 old.roots new.roots) refl e
    where
      placed : place_faults old new pairs ≡ None → ArePlaced old new pairs
      placed f = let both = no_place_faults old new pairs pairs [] 0 refl refl (λ i j d h l. absurd (omega arith)) (λ n e. All-nil (λ q. q.1 < n)) f in record { starts = both.1; later = both.0 }

      none_placed : ArePlaced old new []
      none_placed = record { starts = All-nil (Start old new pairs); later = λ i j d h l. absurd (omega arith) }

      from_places : AreComparable old new → (q : Refusal) → PlaceFails old new pairs q → IsFirstFault old new pairs q
      from_places c q h = grind (arith, common_steps)

      from_objects : AreComparable old new → ArePlaced old new pairs → (q : Refusal) → ObjectFails old new pairs q → IsFirstFault old new pairs q
      from_objects c p q h = grind (arith, common_steps)

      comparable : shape_fault old ≡ None → shape_fault new ≡ None → (length old.roots == length new.roots) ≡ true → AreComparable old new
      comparable o n c = record { old_shaped = shaped old o; new_shaped = shaped new n; roots = eqb-true _ _ c }

      go : (o : Option ℕ) → shape_fault old ≡ o → (n : Option ℕ) → shape_fault new ≡ n → (c : Bool) → (length old.roots == length new.roots) ≡ c
          → (p : Option Refusal) → place_faults old new pairs ≡ p → (b : Option Refusal) → object_faults old new pairs ≡ b
          → (d : Option ℕ) → first_difference (words_correspond pairs) 0 old.roots new.roots ≡ d
          → ((option_map (λ at. OldShape at) o or_else option_map (λ at. NewShape at) n or_else then_some (not c) RootCount or_else p) or_else b or_else option_map (λ slot. RootDiffers slot) d) ≡ Some r
          → IsFirstFault old new pairs r
      go (Some at) fo n fn c fc p fp b fb d fd e = let same : OldShape at ≡ r = cc e in subst (IsFirstFault old new pairs) same fo
      go None fo (Some at) fn c fc p fp b fb d fd e = let same : NewShape at ≡ r = cc e in subst (IsFirstFault old new pairs) same (shaped old fo, fn)
      go None fo None fn false fc p fp b fb d fd e = let same : RootCount ≡ r = cc e in subst (IsFirstFault old new pairs) same (shaped old fo, shaped new fn, eqb-false _ _ fc)
      go None fo None fn true fc (Some q) fp b fb d fd e =
          let same : q ≡ r = cc e in
          from_places (comparable fo fn fc) r (place_fails old new pairs r pairs [] 0 refl refl none_placed (λ n e. All-nil (λ q. q.1 < n)) (fp ∙ ap (λ x. Some x) same))
      go None fo None fn true fc None fp (Some q) fb d fd e =
          let same : q ≡ r = cc e in
          from_objects (comparable fo fn fc) (placed fp) r (object_fails r pairs [] 0 refl (placed fp).starts (All-nil Object) (fb ∙ ap (λ x. Some x) same) pairs refl refl)
      go None fo None fn true fc None fp None fb (Some slot) fd e =
          let same : RootDiffers slot ≡ r = cc e in
          subst (IsFirstFault old new pairs) same (comparable fo fn fc, placed fp, no_object_faults old new pairs 0 pairs (placed fp).starts fb, fd)
      go None fo None fn true fc None fp None fb None fd e = absurd cc
