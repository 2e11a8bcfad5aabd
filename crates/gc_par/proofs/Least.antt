-- The least number that the pairs give is that of the first pair with a fault, whose fault is the first of all.
use Rattle.std.proofs.Common.{◌≡◌, ℕ, zero, suc, ◌+◌, ◌<◌, ◌≤◌, true, cond, List, [], ◌∷◌, length, map, get_or, refl, sym, ap, ◌∙◌, subst, arith, Option, Some, None, is_some, unwrap_or}
use Rattle.std.specs.Ordering.{nat_cmp}
use Rattle.std.specs.List.{range_with_len}
use Rattle.std.proofs.lemmas.List.FromFn.{get_or-map-range_with_len, length-map-range_with_len}
use Rattle.rayon.specs.Lists.{IsLeast}
use Rattle.rayon.proofs.ToStd.{IsLeast-All}
use Rattle.gc_words.specs.Image.{Image}
use Rattle.gc_words.specs.Fault.{◌or_else◌, first_over_pairs, pair_fault, object_faults}
use Rattle.gc_words.specs.declared.refusal.Refusal.{Refusal}
use Rattle.gc_cert.specs.Grammar.{CertifiedPair}
use Rattle.gc_par.specs.Internal.Least.{fault_at, place_or, IsFirst}

-- ---- the least number

module _ (fault : ℕ → Option Refusal) (n : ℕ) where
  abbrev given : List ℕ
  given = map (place_or n fault) (range_with_len 0 n)

  bounded : (o : Option Refusal) (k : ℕ) → k < n → cond (is_some o) k n ≤ n
  bounded None k below = omega arith
  bounded (Some f) k below = omega arith

  none_if : (o : Option Refusal) (k : ℕ) → k < cond (is_some o) k n → o ≡ None
  none_if None k below = refl
  none_if (Some f) k below = absurd (omega arith)

  some_if : (o : Option Refusal) (k : ℕ) → cond (is_some o) k n < n → is_some o ≡ true
  some_if None k below = absurd (omega arith)
  some_if (Some f) k below = refl

  this_one : (o : Option Refusal) (k : ℕ) → cond (is_some o) k n < n → cond (is_some o) k n ≡ k
  this_one None k below = absurd (omega arith)
  this_one (Some f) k below = refl

  at : (k d : ℕ) → k < n → get_or given k d ≡ place_or n fault k
  at k d below = get_or-map-range_with_len (place_or n fault) 0 n k k d below (omega arith)

  pub least_is_first : (r : Option ℕ) → IsLeast nat_cmp given r → IsFirst fault n (unwrap_or r n)
  least_is_first None h =
      let empty : n ≡ 0 = sym (length-map-range_with_len (place_or n fault) 0 n) ∙ ap length h in
      record { within = omega arith; before = λ k below. absurd (omega arith); here = λ below. absurd (omega arith) }
  least_is_first (Some m) h =
      let low = IsLeast-All given (Some m) h in
      let k = h.0.0 in
      let len = length-map-range_with_len (place_or n fault) 0 n in
      let below : k < n = omega (arith, h.0.1, len) in
      let is : m ≡ place_or n fault k = sym h.0.2 ∙ at k m below in
      record {
        within = rw is (bounded (fault k) k below);
        before = λ j earlier.
            let in_range : j < n = omega (arith, earlier, is, bounded (fault k) k below) in
            let le : m ≤ place_or n fault j = rw (at j 0 in_range) at (low j 0 (omega (arith, in_range, len))) in
            none_if (fault j) j (omega (arith, earlier, le));
        here = λ small.
            let small' : place_or n fault k < n = omega (arith, is, small) in
            let here : m ≡ k = is ∙ this_one (fault k) k small' in
            rw here (some_if (fault k) k small');
      }

-- ---- its fault

module _ (old new : Image) (all : List (ℕ × ℕ)) where
  none_from : (k : ℕ) (rest : List (ℕ × ℕ)) → ((j i : ℕ) → i ≡ k + j → j < length rest → pair_fault old new all i (get_or rest j (0, 0)) ≡ None)
      → first_over_pairs (pair_fault old new all) k rest ≡ None
  none_from k [] none = refl
  none_from k (p ∷ rest) none =
      ap (λ o. o or_else first_over_pairs (pair_fault old new all) (suc k) rest) (none 0 k (omega arith) (omega arith))
      ∙ none_from (suc k) rest (λ j i is inside. none (suc j) i (omega arith) (omega arith))

  some_first : (o q : Option Refusal) → is_some o ≡ true → o or_else q ≡ o
  some_first None q some = cc
  some_first (Some f) q some = refl

  first_from : (k m at : ℕ) (rest : List (ℕ × ℕ)) → at ≡ k + m → m < length rest
      → ((j i : ℕ) → i ≡ k + j → j < m → pair_fault old new all i (get_or rest j (0, 0)) ≡ None)
      → is_some (pair_fault old new all at (get_or rest m (0, 0))) ≡ true
      → first_over_pairs (pair_fault old new all) k rest ≡ pair_fault old new all at (get_or rest m (0, 0))
  first_from k m at [] is inside none some = absurd (omega arith)
  first_from k zero at (p ∷ rest) is inside none some =
      let same : at ≡ k = omega arith in
      subst (λ i. first_over_pairs (pair_fault old new all) k (p ∷ rest) ≡ pair_fault old new all i p) (sym same)
      (some_first (pair_fault old new all k p) (first_over_pairs (pair_fault old new all) (suc k) rest) (subst (λ i. is_some (pair_fault old new all i p) ≡ true) same some))
  first_from k (suc m) at (p ∷ rest) is inside none some =
      ap (λ o. o or_else first_over_pairs (pair_fault old new all) (suc k) rest) (none 0 k (omega arith) (omega arith))
      ∙ first_from (suc k) m at rest (omega arith) (omega arith) (λ j i is inside. none (suc j) i (omega arith) (omega arith)) some

pub first_has_first_fault : (c : CertifiedPair) (n m : ℕ) → n ≡ length c.pairs → IsFirst (fault_at c) n m → m < n
    → fault_at c m ≡ object_faults c.old c.new c.pairs
first_has_first_fault c n m all first inside =
    sym (first_from c.old c.new c.pairs 0 m m c.pairs (omega arith) (omega arith)
    (λ j i is below. let same : i ≡ j = omega arith in subst (λ i. pair_fault c.old c.new c.pairs i (get_or c.pairs j (0, 0)) ≡ None) (sym same) (first.before j below))
    (first.here inside))

pub none_has_no_fault : (c : CertifiedPair) (n m : ℕ) → n ≡ length c.pairs → IsFirst (fault_at c) n m → n ≤ m
    → None ≡ object_faults c.old c.new c.pairs
none_has_no_fault c n m all first past =
    sym (none_from c.old c.new c.pairs 0 c.pairs
    (λ j i is below. let same : i ≡ j = omega arith in subst (λ i. pair_fault c.old c.new c.pairs i (get_or c.pairs j (0, 0)) ≡ None) (sym same) (first.before j (omega arith))))
