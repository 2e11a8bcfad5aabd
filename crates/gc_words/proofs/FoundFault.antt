-- A fault that is the first by its relation is the one that is found.
use Rattle.std.proofs.lemmas.Grind.{common_steps}
use Rattle.std.specs.Bool.{then_some}
use Rattle.std.specs.Option.{option_map}
use Rattle.std.proofs.Common.{◌≡◌, ℕ, suc, ◌+◌, ◌<◌, Bool, true, not, ◌==◌, List, [], ◌∷◌, ◌++◌, length, take, Option, Some, None, refl, sym, ◌∙◌, ap, subst, arith, ⊎_elim, append_assoc, append-nil}
use Rattle.std.specs.List.{All, AllPairs, list_any}
use Rattle.std.proofs.lemmas.Bool.{cases_Bool, eq-eqb, ne_eqb}
use Rattle.std.proofs.lemmas.List.Elements.{All-nil, All-head, All-tail, All-weaker, recursion_from_All}
use Rattle.gc_words.specs.Image.{Image, Block}
use Rattle.gc_words.specs.Fault.{◌or_else◌, shape_fault, first_over_pairs, not_above_last, place_fault, place_faults, table_fault, block_fault, pair_fault, object_faults, first_fault, PairAt, AreComparable, ArePlaced, ObjectsMatch, HeadersDiffer, FieldsDifferAt, IsFirstFault}
use Rattle.gc_words.specs.declared.refusal.Refusal.{Refusal}
use Rattle.gc_words.specs.declared.refusal.Refusal.TheVariants.{OldShape, NewShape, RootCount, OldNotStart, NewNotStart, NotRising, Twice, HeaderDiffers, FieldDiffers, RootDiffers}
use Rattle.gc_words.proofs.Faults.{none_or, none_when, none_at_place, no_shape_fault, LastIsHighest, Later, pushed_highest, none_same, above_all, first_taken, one_longer, place_faults_from, before_each, place_holds, places_hold, header_same, same_header_of, block_fault_none, object_faults_none, Start, Object}

-- ---- options

found : {X : Type 0} (x y : Option X) (r : X) → x ≡ Some r → (x or_else y) ≡ Some r
found x y r e = grind (arith, common_steps)

passed : {X : Type 0} (x y : Option X) (r : X) → x ≡ None → y ≡ Some r → (x or_else y) ≡ Some r
passed x y r e f = grind (arith, common_steps)

when_found : (b : Bool) (r : Refusal) → b ≡ true → then_some b r ≡ Some r
when_found b r e = ap (λ b. then_some b r) e

at_found : (o : Option ℕ) (r : ℕ → Refusal) (n : ℕ) → o ≡ Some n → option_map r o ≡ Some (r n)
at_found o r n e = ap (λ o. option_map r o) e

-- ---- places

module _ (old new : Image) (pairs : List (ℕ × ℕ)) where
  -- the places of the pairs before p are right, so the first fault of places is that of p
  place_found : (r : Refusal) (before : List (ℕ × ℕ)) (p : ℕ × ℕ) (rest : List (ℕ × ℕ)) → pairs ≡ before ++ p ∷ rest → ArePlaced old new before
      → (LastIsHighest before → place_fault old new before (length before) p ≡ Some r) → place_faults old new pairs ≡ Some r
  place_found r before p rest whole placed fault = ap (place_faults_from old new pairs 0) whole ∙ go before [] 0 refl refl placed.starts (λ n e. All-nil (λ q. q.1 < n))
    where
      go : (todo done : List (ℕ × ℕ)) (k : ℕ) → done ++ todo ≡ before → length done ≡ k → All (Start old new pairs) todo → LastIsHighest done → place_faults_from old new pairs k (todo ++ p ∷ rest) ≡ Some r
      go [] done k parts count starts highest =
          let same : done ≡ before = sym (append-nil done) ∙ parts in
          let taken : take k pairs ≡ done = first_taken pairs done (p ∷ rest) k (ap (λ some. some ++ p ∷ rest) same ∙ sym whole) count in
          found _ _ r ((λ i. place_fault old new ((taken ∙ same) i) ((sym count ∙ ap length same) i) p) ∙ fault (subst LastIsHighest same highest))
      go (q ∷ todo) done k parts count starts highest =
          let each : All (λ x. Later x q) done = before_each done todo q (subst (AllPairs Later) (sym parts) placed.later) in
          let taken : take k pairs ≡ done = first_taken pairs done (q ∷ todo ++ p ∷ rest) k (sym (append_assoc done (q ∷ todo) (p ∷ rest)) ∙ ap (λ some. some ++ p ∷ rest) parts ∙ sym whole) count in
          let here : place_fault old new (take k pairs) k q ≡ None
          = subst (λ some. place_fault old new some k q ≡ None) (sym taken) (place_holds old new done k q each (All-head (Start old new pairs) q todo starts)) in
          passed _ _ r here
          (go todo (done ++ q ∷ []) (suc k) (append_assoc done (q ∷ []) todo ∙ parts) (one_longer done q k count) (All-tail (Start old new pairs) q todo starts)
          (pushed_highest done q (All-weaker (λ x. Later x q) (λ x. x.1 < q.1) (λ x h. h.1) done each)))

  -- ---- objects

  object_found : (r : Refusal) (k : ℕ) (todo : List (ℕ × ℕ)) (p : ℕ × ℕ) (rest : List (ℕ × ℕ)) → All (Object old new pairs) todo → pair_fault old new pairs (k + length todo) p ≡ Some r
      → first_over_pairs (pair_fault old new pairs) k (todo ++ p ∷ rest) ≡ Some r
  object_found r k [] p rest match fault = found _ _ r (subst (λ j. pair_fault old new pairs j p ≡ Some r) (omega arith) fault)
  object_found r k (q ∷ todo) p rest match fault =
      passed _ _ r (block_fault_none pairs k _ _ (All-head (Object old new pairs) q todo match))
      (object_found r (suc k) todo p rest (All-tail (Object old new pairs) q todo match) (subst (λ j. pair_fault old new pairs j p ≡ Some r) (omega arith) fault))

  headers_found : (k : ℕ) (a b : Option Block) → HeadersDiffer a b → block_fault pairs k a b ≡ Some (HeaderDiffers k)
  headers_found k a b differ = grind (arith, common_steps, cases_Bool, header_same)

  fields_found : (k i : ℕ) (a b : Option Block) → FieldsDifferAt pairs i a b → block_fault pairs k a b ≡ Some (FieldDiffers k i)
  fields_found k i a b differ = grind (arith, common_steps, same_header_of, at_found)

  -- ---- all of them

  comparable_none : AreComparable old new
      → ((option_map (λ at. OldShape at) (shape_fault old) or_else option_map (λ at. NewShape at) (shape_fault new)) or_else then_some (not (length old.roots == length new.roots)) RootCount) ≡ None
  comparable_none c = grind (arith, common_steps, none_or, none_at_place, no_shape_fault, none_when, eq-eqb)

  table_none : AreComparable old new → ArePlaced old new pairs → table_fault old new pairs ≡ None
  table_none c p = none_or _ _ (comparable_none c) (places_hold old new pairs pairs [] 0 refl refl p.later p.starts)

  in_places : (r : Refusal) → AreComparable old new → place_faults old new pairs ≡ Some r → first_fault old new pairs ≡ Some r
  in_places r c e = found _ _ r (found _ _ r (passed _ _ r (comparable_none c) e))

  in_objects : (r : Refusal) → AreComparable old new → ArePlaced old new pairs → object_faults old new pairs ≡ Some r → first_fault old new pairs ≡ Some r
  in_objects r c p e = found _ _ r (passed _ _ r (table_none c p) e)

  at_place_of : (r : Refusal) (k : ℕ) (P : List (ℕ × ℕ) → ℕ × ℕ → Type 0) (h : PairAt pairs k P) → AreComparable old new → ArePlaced old new h.before
      → (LastIsHighest h.before → place_fault old new h.before (length h.before) h.pair ≡ Some r) → first_fault old new pairs ≡ Some r
  at_place_of r k P h c placed fault = in_places r c (place_found r h.before h.pair h.rest h.whole placed fault)

  at_object_of : (r : Refusal) (k : ℕ) (P : List (ℕ × ℕ) → ℕ × ℕ → Type 0) (h : PairAt pairs k P) → AreComparable old new → ArePlaced old new pairs → ObjectsMatch old new pairs h.before
      → pair_fault old new pairs (length h.before) h.pair ≡ Some r → first_fault old new pairs ≡ Some r
  at_object_of r k P h c placed match fault =
      in_objects r c placed (ap (first_over_pairs (pair_fault old new pairs) 0) h.whole
      ∙ object_found r 0 h.before h.pair h.rest match (subst (λ j. pair_fault old new pairs j h.pair ≡ Some r) (omega arith) fault))

  pub fault_found : (r : Refusal) → IsFirstFault old new pairs r → first_fault old new pairs ≡ Some r
  fault_found (OldShape at) h = found _ _ _ (found _ _ _ (found _ _ _ (found _ _ _ (found _ _ _ (at_found _ (λ at. OldShape at) at h)))))
  fault_found (NewShape at) h =
      found _ _ _ (found _ _ _ (found _ _ _ (found _ _ _ (passed _ _ _ (none_at_place _ (λ at. OldShape at) (no_shape_fault old h.0)) (at_found _ (λ at. NewShape at) at h.1)))))
  fault_found RootCount h =
      found _ _ _ (found _ _ _ (found _ _ _
      (passed _ _ _ (none_or _ _ (none_at_place _ (λ at. OldShape at) (no_shape_fault old h.0)) (none_at_place _ (λ at. NewShape at) (no_shape_fault new h.1)))
      (when_found _ RootCount (ap not (ne_eqb _ _ h.2))))))
  fault_found (OldNotStart k) h =
      at_place_of (OldNotStart k) k _ h.1 h.0 h.1.holds.0 (λ highest.
      found _ _ _ (found _ _ _ (found _ _ _ (when_found _ _ (ap not h.1.holds.1)))) ∙ ap (λ j. Some (OldNotStart j)) h.1.place)
  fault_found (NewNotStart k) h =
      at_place_of (NewNotStart k) k _ h.1 h.0 h.1.holds.0 (λ highest.
      found _ _ _ (found _ _ _ (passed _ _ _ (none_when _ _ (ap not h.1.holds.1)) (when_found _ _ (ap not h.1.holds.2)))) ∙ ap (λ j. Some (NewNotStart j)) h.1.place)
  fault_found (NotRising k) h =
      let before = h.1.before in
      let p = h.1.pair in
      at_place_of (NotRising k) k _ h.1 h.0 h.1.holds.0 (λ highest.
      let above : not_above_last before p.1 ≡ true = ⊎_elim (λ t. t) (λ f. absurd (h.1.holds.3 (highest p.1 f))) (cases_Bool (not_above_last before p.1)) in
      found _ _ _ (passed _ _ _ (none_or _ _ (none_when _ _ (ap not h.1.holds.1)) (none_when _ _ (ap not h.1.holds.2))) (when_found _ _ above)) ∙ ap (λ j. Some (NotRising j)) h.1.place)
  fault_found (Twice k) h =
      let before = h.1.before in
      let p = h.1.pair in
      at_place_of (Twice k) k _ h.1 h.0 h.1.holds.0 (λ highest.
      let again : list_any (λ q. q.0 == p.0) before ≡ true = ⊎_elim (λ t. t) (λ f. absurd (h.1.holds.4 (none_same before p.0 f))) (cases_Bool (list_any (λ q. q.0 == p.0) before)) in
      passed _ _ _
      (none_or _ _ (none_or _ _ (none_when _ _ (ap not h.1.holds.1)) (none_when _ _ (ap not h.1.holds.2))) (none_when _ _ (above_all before p.1 (recursion_from_All (λ q. q.1 < p.1) before h.1.holds.3))))
      (when_found _ _ again)
      ∙ ap (λ j. Some (Twice j)) h.1.place)
  fault_found (HeaderDiffers k) h = at_object_of (HeaderDiffers k) k _ h.2 h.0 h.1 h.2.holds.0 (headers_found _ _ _ h.2.holds.1 ∙ ap (λ j. Some (HeaderDiffers j)) h.2.place)
  fault_found (FieldDiffers k i) h = at_object_of (FieldDiffers k i) k _ h.2 h.0 h.1 h.2.holds.0 (fields_found _ i _ _ h.2.holds.1 ∙ ap (λ j. Some (FieldDiffers j i)) h.2.place)
  fault_found (RootDiffers slot) h = passed _ _ _ (none_or _ _ (table_none h.0 h.1) (object_faults_none old new pairs 0 pairs h.2)) (at_found _ (λ slot. RootDiffers slot) slot h.3)

  -- no two faults are the first
  pub one_first : (r s : Refusal) → IsFirstFault old new pairs r → IsFirstFault old new pairs s → r ≡ s
  one_first r s h k = grind (arith, common_steps, fault_found)
