-- There is no first fault exactly if the certificate holds.
use Rattle.std.proofs.lemmas.Grind.{common_steps}
use Rattle.std.proofs.Common.{◌≡◌, ℕ, suc, ◌<◌, Bool, true, false, cond, not, ◌==◌, List, [], ◌∷◌, ◌++◌, length, get_or, take, Option, Some, None, is_some, refl, sym, ◌∙◌, ap, subst, arith, append_assoc, append-nil}
use Rattle.std.specs.Prelude.{◌≢◌, nat_le}
use Rattle.std.specs.Bool.{then_some}
use Rattle.std.specs.Option.{option_map}
use Rattle.std.specs.List.{All, AllPairs, AllZip, AllByRecursion, list_any}
use Rattle.std.proofs.lemmas.Bool.{eqb-true, eq-eqb, ne_eqb, leb-true, leb-false, le-leb, lt-leb, and_parts, and_from, both_ways, not-false}
use Rattle.std.proofs.lemmas.List.{get_or_append_left, get_or_at, length-append}
use Rattle.std.proofs.Math.Seq.{take-append_seam}
use Rattle.std.proofs.lemmas.List.Elements.{All-nil, All-cons, All-head, All-tail, All-weaker, recursion_from_All, length_all_zip}
use Rattle.std.proofs.lemmas.List.Quantifiers.{all_pairs_push}
use Rattle.std.proofs.lemmas.List.Folds.{list_any_none, list_any_at}
use Rattle.gc_words.specs.Word.{words_correspond}
use Rattle.gc_words.specs.Image.{Image, Block, IsShaped, block_at, is_start}
use Rattle.gc_words.specs.declared.header.Header.{Header}
use Rattle.gc_words.specs.Certificate.{BlocksCorrespond, Certified}
use Rattle.gc_words.specs.Fault.{◌or_else◌, shape_fault, not_above_last, place_fault, first_over_pairs, place_faults, table_fault, first_difference, same_header, block_fault, pair_fault, object_faults, root_fault, first_fault}
use Rattle.gc_words.specs.declared.refusal.Refusal.{Refusal}
use Rattle.gc_words.specs.declared.refusal.Refusal.TheVariants.{OldShape, NewShape, RootCount, RootDiffers}

-- ---- options

pub or_none : {X : Type 0} (x y : Option X) → (x or_else y) ≡ None → (x ≡ None) × (y ≡ None)
or_none x y e = grind (arith, common_steps)

pub none_or : {X : Type 0} (x y : Option X) → x ≡ None → y ≡ None → (x or_else y) ≡ None
none_or x y e f = grind (arith, common_steps)

pub when_none : (b : Bool) (r : Refusal) → then_some b r ≡ None → b ≡ false
when_none b r e = grind (arith, common_steps)

pub none_when : (b : Bool) (r : Refusal) → b ≡ false → then_some b r ≡ None
none_when b r e = grind (arith, common_steps)

pub at_place_none : (o : Option ℕ) (r : ℕ → Refusal) → option_map r o ≡ None → o ≡ None
at_place_none o r e = grind (arith, common_steps)

pub none_at_place : (o : Option ℕ) (r : ℕ → Refusal) → o ≡ None → option_map r o ≡ None
none_at_place o r e = grind (arith, common_steps)

-- ---- shape

none_if : {X : Type 0} (b : Bool) (x : Option X) (y : X) → b ≡ true → x ≡ None → cond b x (Some y) ≡ None
none_if b x y e f = grind (arith, common_steps)

pub shaped : (image : Image) → shape_fault image ≡ None → IsShaped image
shaped image e = grind (arith, common_steps, and_parts, leb-true, eqb-true)

pub no_shape_fault : (image : Image) → IsShaped image → shape_fault image ≡ None
no_shape_fault image s = grind (arith, common_steps, none_if, and_from, le-leb, eq-eqb)

-- ---- pairs: their places

abbrev pub Later : ℕ × ℕ → ℕ × ℕ → Type 0
Later p q = (p.0 ≢ q.0) × (p.1 < q.1)

not_above_push : (before : List (ℕ × ℕ)) (p : ℕ × ℕ) (n : ℕ) → not_above_last (before ++ p ∷ []) n ≡ nat_le n p.1
not_above_push [] p n = refl
not_above_push (x ∷ []) p n = refl
not_above_push (x ∷ y ∷ rest) p n = not_above_push (y ∷ rest) p n

-- a number above the last is above all
abbrev pub LastIsHighest : List (ℕ × ℕ) → Type 0
LastIsHighest before = (n : ℕ) → not_above_last before n ≡ false → All (λ q. q.1 < n) before

pub pushed_highest : (before : List (ℕ × ℕ)) (p : ℕ × ℕ) → All (λ q. q.1 < p.1) before → LastIsHighest (before ++ p ∷ [])
pushed_highest before p below n e = grind (arith, common_steps, leb-false, not_above_push)

pub none_same : (before : List (ℕ × ℕ)) (a : ℕ) → list_any (λ q. q.0 == a) before ≡ false → All (λ q. q.0 ≢ a) before
none_same before a e = λ k d h same. both_ways (list_any (λ q. q.0 == a) before) e (list_any_at (λ q. q.0 == a) before k d h (eq-eqb _ _ same))

no_place_fault : (old new : Image) (before : List (ℕ × ℕ)) (k : ℕ) (p : ℕ × ℕ) → place_fault old new before k p ≡ None
    → (is_start old.words p.0 ≡ true) × (is_start new.words p.1 ≡ true) × (not_above_last before p.1 ≡ false) × (list_any (λ q. q.0 == p.0) before ≡ false)
no_place_fault old new before k p e = grind (arith, common_steps, or_none, not-false, when_none)

-- the first k of all pairs, and one more
pub first_taken : (all before rest : List (ℕ × ℕ)) (k : ℕ) → before ++ rest ≡ all → length before ≡ k → take k all ≡ before
first_taken all before rest k whole count = (λ i. take (sym count i) (sym whole i)) ∙ take-append_seam before rest

pub one_longer : (before : List (ℕ × ℕ)) (p : ℕ × ℕ) (k : ℕ) → length before ≡ k → length (before ++ p ∷ []) ≡ suc k
one_longer before p k count = omega (arith, length-append before (p ∷ []), count)

-- the places from pair k on
abbrev pub place_faults_from : Image → Image → List (ℕ × ℕ) → ℕ → List (ℕ × ℕ) → Option Refusal
place_faults_from old new all k rest = first_over_pairs (λ k. place_fault old new (take k all) k) k rest

pub no_place_faults : (old new : Image) (all rest before : List (ℕ × ℕ)) (k : ℕ) → before ++ rest ≡ all → length before ≡ k → AllPairs Later before → LastIsHighest before
    → place_faults_from old new all k rest ≡ None → AllPairs Later all × All (λ p. (is_start old.words p.0 ≡ true) × (is_start new.words p.1 ≡ true)) rest
no_place_faults old new all [] before k whole count pairs highest e = (subst (AllPairs Later) (sym (append-nil before) ∙ whole) pairs, All-nil _)
no_place_faults old new all (p ∷ rest) before k whole count pairs highest e =
    let both : (place_fault old new (take k all) k p ≡ None) × (place_faults_from old new all (suc k) rest ≡ None) = or_none _ _ e in
    let at : (is_start old.words p.0 ≡ true) × (is_start new.words p.1 ≡ true) × (not_above_last before p.1 ≡ false) × (list_any (λ q. q.0 == p.0) before ≡ false)
    = no_place_fault old new before k p (subst (λ some. place_fault old new some k p ≡ None) (first_taken all before (p ∷ rest) k whole count) both.0) in
    let below : All (λ q. q.1 < p.1) before = highest p.1 at.2 in
    let pushed : AllPairs Later (before ++ p ∷ []) = all_pairs_push Later before p pairs (λ i d h. (none_same before p.0 at.3 i d h, below i d h)) in
    let ih : AllPairs Later all × All (λ p. (is_start old.words p.0 ≡ true) × (is_start new.words p.1 ≡ true)) rest
    = no_place_faults old new all rest (before ++ p ∷ []) (suc k) (append_assoc before (p ∷ []) rest ∙ whole) (one_longer before p k count) pushed (pushed_highest before p below) both.1 in
    (ih.0, All-cons (λ p. (is_start old.words p.0 ≡ true) × (is_start new.words p.1 ≡ true)) p rest (at.0, at.1) ih.1)

-- each pair before p is related to it
pub before_each : (before rest : List (ℕ × ℕ)) (p : ℕ × ℕ) → AllPairs Later (before ++ p ∷ rest) → All (λ q. Later q p) before
before_each before rest p pairs k d h =
    subst (λ (q : ℕ × ℕ). Later q p) (get_or_append_left before (p ∷ rest) d k h)
    (subst (λ (q : ℕ × ℕ). Later (get_or (before ++ p ∷ rest) k d) q) (get_or_at before p rest d (length before) refl)
    (pairs k (length before) d h (length_above before rest)))
  where
    length_above : (xs ys : List (ℕ × ℕ)) → length xs < length (xs ++ p ∷ ys)
    length_above [] ys = omega arith
    length_above (x ∷ xs) ys = let ih : length xs < length (xs ++ p ∷ ys) = length_above xs ys in omega arith

pub above_all : (before : List (ℕ × ℕ)) (n : ℕ) → AllByRecursion (λ q. q.1 < n) before → not_above_last before n ≡ false
above_all [] n h = refl
above_all (p ∷ []) n h = lt-leb n p.1 h.0
above_all (p ∷ q ∷ rest) n h = above_all (q ∷ rest) n h.1

-- the places of a pair are right, given the pairs before it
pub place_holds : (old new : Image) (before : List (ℕ × ℕ)) (k : ℕ) (p : ℕ × ℕ) → All (λ q. Later q p) before → (is_start old.words p.0 ≡ true) × (is_start new.words p.1 ≡ true) → place_fault old new before k p ≡ None
place_holds old new before k p each start = grind (arith, common_steps, recursion_from_All, list_any_none, ne_eqb, none_or, none_when, above_all)

pub places_hold : (old new : Image) (all rest before : List (ℕ × ℕ)) (k : ℕ) → before ++ rest ≡ all → length before ≡ k → AllPairs Later all → All (λ p. (is_start old.words p.0 ≡ true) × (is_start new.words p.1 ≡ true)) rest
    → place_faults_from old new all k rest ≡ None
places_hold old new all [] before k whole count pairs starts = refl
places_hold old new all (p ∷ rest) before k whole count pairs starts =
    let each : All (λ q. Later q p) before = before_each before rest p (subst (AllPairs Later) (sym whole) pairs) in
    let start : (is_start old.words p.0 ≡ true) × (is_start new.words p.1 ≡ true) = All-head (λ p. (is_start old.words p.0 ≡ true) × (is_start new.words p.1 ≡ true)) p rest starts in
    none_or (place_fault old new (take k all) k p) (place_faults_from old new all (suc k) rest)
    (subst (λ some. place_fault old new some k p ≡ None) (sym (first_taken all before (p ∷ rest) k whole count)) (place_holds old new before k p each start))
    (places_hold old new all rest (before ++ p ∷ []) (suc k) (append_assoc before (p ∷ []) rest ∙ whole) (one_longer before p k count) pairs (All-tail (λ p. (is_start old.words p.0 ≡ true) × (is_start new.words p.1 ≡ true)) p rest starts))

-- ---- pairs: their objects, and roots

pub no_difference : (alike : ℕ → ℕ → Bool) (i : ℕ) (vs ws : List ℕ) → first_difference alike i vs ws ≡ None → AllZip (λ v w. alike v w ≡ true) vs ws
no_difference alike i [] [] e = tt
no_difference alike i [] (w ∷ ws) e = absurd (let no : Some i ≡ None = e in cc)
no_difference alike i (v ∷ vs) [] e = absurd (let no : Some i ≡ None = e in cc)
no_difference alike i (v ∷ vs) (w ∷ ws) e = grind (arith, common_steps, no_difference alike (suc i) vs ws)

pub difference_none : (alike : ℕ → ℕ → Bool) (i : ℕ) (vs ws : List ℕ) → AllZip (λ v w. alike v w ≡ true) vs ws → first_difference alike i vs ws ≡ None
difference_none alike i [] [] z = refl
difference_none alike i [] (w ∷ ws) z = absurd z
difference_none alike i (v ∷ vs) [] z = absurd z
difference_none alike i (v ∷ vs) (w ∷ ws) z = none_if (alike v w) _ i z.0 (difference_none alike (suc i) vs ws z.1)

pub header_same : (g h : Header) → same_header g h ≡ true → g ≡ h
header_same g h e = grind (arith, common_steps, and_parts, eqb-true)

pub same_header_of : (g h : Header) → g ≡ h → same_header g h ≡ true
same_header_of g h e = grind (arith, common_steps, and_from, eq-eqb)

pub no_block_fault : (pairs : List (ℕ × ℕ)) (k : ℕ) (o q : Option Block) → is_some o ≡ true → is_some q ≡ true → block_fault pairs k o q ≡ None → BlocksCorrespond pairs o q
no_block_fault pairs k o q s t e = grind (arith, common_steps, header_same, no_difference, at_place_none)

pub block_fault_none : (pairs : List (ℕ × ℕ)) (k : ℕ) (o q : Option Block) → BlocksCorrespond pairs o q → block_fault pairs k o q ≡ None
block_fault_none pairs k o q c = grind (arith, common_steps, none_if, same_header_of, none_at_place, difference_none)

both_there : (pairs : List (ℕ × ℕ)) (o q : Option Block) → BlocksCorrespond pairs o q → (is_some o ≡ true) × (is_some q ≡ true)
both_there pairs o q c = grind (arith, common_steps)

module _ (old new : Image) (pairs : List (ℕ × ℕ)) where
  abbrev pub Start : ℕ × ℕ → Type 0
  Start p = (is_start old.words p.0 ≡ true) × (is_start new.words p.1 ≡ true)

  abbrev pub Object : ℕ × ℕ → Type 0
  Object p = BlocksCorrespond pairs (block_at old.words p.0) (block_at new.words p.1)

  pub no_object_faults : (k : ℕ) (rest : List (ℕ × ℕ)) → All Start rest → first_over_pairs (pair_fault old new pairs) k rest ≡ None → All Object rest
  no_object_faults k [] starts e = All-nil Object
  no_object_faults k (p ∷ rest) starts e =
      let both : (pair_fault old new pairs k p ≡ None) × (first_over_pairs (pair_fault old new pairs) (suc k) rest ≡ None) = or_none _ _ e in
      let start : Start p = All-head Start p rest starts in
      All-cons Object p rest (no_block_fault pairs k _ _ start.0 start.1 both.0) (no_object_faults (suc k) rest (All-tail Start p rest starts) both.1)

  pub object_faults_none : (k : ℕ) (rest : List (ℕ × ℕ)) → All Object rest → first_over_pairs (pair_fault old new pairs) k rest ≡ None
  object_faults_none k [] objects = refl
  object_faults_none k (p ∷ rest) objects = none_or _ _ (block_fault_none pairs k _ _ (All-head Object p rest objects)) (object_faults_none (suc k) rest (All-tail Object p rest objects))

  pub certified_of_no_fault : first_fault old new pairs ≡ None → Certified old new pairs
  certified_of_no_fault e =
      let s5 : ((table_fault old new pairs or_else object_faults old new pairs) ≡ None) × (root_fault old new pairs ≡ None) = or_none _ _ e in
      let s4 : (table_fault old new pairs ≡ None) × (object_faults old new pairs ≡ None) = or_none _ _ s5.0 in
      let s3 : ((option_map (λ at. OldShape at) (shape_fault old) or_else option_map (λ at. NewShape at) (shape_fault new) or_else then_some (not (length old.roots == length new.roots)) RootCount) ≡ None)
      × (place_faults old new pairs ≡ None) = or_none _ _ s4.0 in
      let s1 : (option_map (λ at. OldShape at) (shape_fault old) ≡ None) × (option_map (λ at. NewShape at) (shape_fault new) ≡ None) = or_none _ _ (or_none _ _ s3.0).0 in
      let places : AllPairs Later pairs × All Start pairs = no_place_faults old new pairs pairs [] 0 refl refl (λ i j d h l. absurd (omega arith)) (λ n e. All-nil (λ q. q.1 < n)) s3.1 in
      record {
        old_shaped = shaped old (at_place_none (shape_fault old) (λ at. OldShape at) s1.0);
        new_shaped = shaped new (at_place_none (shape_fault new) (λ at. NewShape at) s1.1);
        objects = no_object_faults 0 pairs places.1 s4.1;
        rising = λ i j d h l. (places.0 i j d h l).1;
        once = λ i j d h l. (places.0 i j d h l).0;
        roots = no_difference (words_correspond pairs) 0 old.roots new.roots (at_place_none _ (λ slot. RootDiffers slot) s5.1);
      }

  pub no_fault_of_certified : Certified old new pairs → first_fault old new pairs ≡ None
  no_fault_of_certified c =
      none_or _ _ (none_or _ _
      (none_or _ _ (none_or _ _ (none_or _ _
      (none_at_place _ (λ at. OldShape at) (no_shape_fault old c.old_shaped))
      (none_at_place _ (λ at. NewShape at) (no_shape_fault new c.new_shaped)))
      (none_when _ _ (ap not (eq-eqb _ _ (length_all_zip _ old.roots new.roots c.roots)))))
      (places_hold old new pairs pairs [] 0 refl refl (λ i j d h l. (c.once i j d h l, c.rising i j d h l)) (All-weaker Object Start (λ p b. both_there pairs _ _ b) pairs c.objects)))
      (object_faults_none 0 pairs c.objects))
      (none_at_place _ (λ slot. RootDiffers slot) (difference_none (words_correspond pairs) 0 old.roots new.roots c.roots))
