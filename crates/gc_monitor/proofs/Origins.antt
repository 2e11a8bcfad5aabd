-- What a row of originals by new place says of pairs.
use Rattle.std.proofs.lemmas.Grind.{common_steps}
use Rattle.std.proofs.Common.{◌≡◌, ℕ, zero, suc, ◌+◌, ◌<◌, ◌≤◌, ◌==◌, ◌&&◌, Bool, true, false, List, [], ◌∷◌, ◌++◌, length, get_or, replicate, refl, sym, ◌∙◌, ap, arith}
use Rattle.std.proofs.lemmas.Bool.{ne_eqb, eq-eqb}
use Rattle.gc_graph.specs.Correspond.{paired}
use Rattle.gc_monitor.specs.Origins.{pairs_from, pairs_in}

and_true : (b : Bool) → (b && true) ≡ b
and_true b = grind (arith, common_steps)

none_before : (at : ℕ) (xs : List ℕ) (a b : ℕ) → b < at → paired (pairs_from at xs) a b ≡ false
none_before at [] a b h = refl
none_before at (zero ∷ xs) a b h = none_before (suc at) xs a b (omega arith)
none_before at (suc c ∷ xs) a b h = grind (arith, common_steps, ne_eqb, none_before (suc at) xs a b (omega arith))

told_from : (at : ℕ) (xs : List ℕ) (a b : ℕ) → 1 ≤ a → paired (pairs_from at xs) a (at + b) ≡ (get_or xs b 0 == a)
told_from at [] a b h = sym (ne_eqb 0 a (λ e. omega arith))
told_from at (zero ∷ xs) a zero h = none_before (suc at) xs a (at + 0) (omega arith) ∙ sym (ne_eqb 0 a (λ e. omega arith))
told_from at (zero ∷ xs) a (suc b) h = grind (arith, common_steps, ne_eqb, none_before, eq-eqb, and_true, told_from (suc at) xs a b h)
told_from at (suc c ∷ xs) a zero h = grind (arith, common_steps, ne_eqb, none_before, eq-eqb, and_true)
told_from at (suc c ∷ xs) a (suc b) h = grind (arith, common_steps, ne_eqb, none_before, eq-eqb, and_true, told_from (suc at) xs a b h)

pub told : (xs : List ℕ) (a b : ℕ) → 1 ≤ a → paired (pairs_in xs) a b ≡ (get_or xs b 0 == a)
told xs a b h = let e : b ≡ 0 + b = omega arith in ap (paired (pairs_from 0 xs) a) e ∙ told_from 0 xs a b h

more_from : (at : ℕ) (xs ys : List ℕ) → pairs_from at (xs ++ ys) ≡ pairs_from at xs ++ pairs_from (at + length xs) ys
more_from at [] ys = let e : at ≡ at + 0 = omega arith in ap (λ n. pairs_from n ys) e
more_from at (zero ∷ xs) ys = grind (arith, common_steps, more_from (suc at) xs ys)
more_from at (suc c ∷ xs) ys = grind (arith, common_steps, more_from (suc at) xs ys)

none_in_zeros : (at n : ℕ) → pairs_from at (replicate n 0) ≡ []
none_in_zeros at zero = refl
none_in_zeros at (suc n) = none_in_zeros (suc at) n

-- an object that is no replica adds no pair
pub walked : (xs : List ℕ) (n : ℕ) → pairs_in (xs ++ replicate n 0) ≡ pairs_in xs
walked xs n = grind (arith, common_steps, more_from, none_in_zeros)

-- a replica adds its pair
pub placed : (xs : List ℕ) (a n : ℕ) → 1 ≤ a → pairs_in (xs ++ a ∷ replicate n 0) ≡ pairs_in xs ++ (a, length xs) ∷ []
placed xs a n h = grind (arith, common_steps, more_from, none_in_zeros)
