-- Rows of numbers that C gives roots, as lists of names.
use Rattle.std.proofs.Common.{◌≡◌, ℕ, zero, suc, ◌<◌, get_or, List, [], ◌∷◌, length, map, refl, arith}
use Rattle.std.specs.List.{AllByRecursion}
use Rattle.gc_graph.specs.Slots.{SlotName}

-- the name of entry i
pub named_at : (f : ℕ → SlotName) (numbers : List ℕ) (i : ℕ) (d : SlotName) → i < length numbers → get_or (map f numbers) i d ≡ f (get_or numbers i 0)
named_at f [] i d less = absurd (omega (arith, less))
named_at f (n ∷ rest) zero d less = refl
named_at f (n ∷ rest) (suc i) d less = named_at f rest i d (omega (arith, less))

-- entry i is below what all are below
pub below_at : (bound : ℕ) (numbers : List ℕ) (i : ℕ) → i < length numbers → AllByRecursion (λ n. n < bound) numbers → get_or numbers i 0 < bound
below_at bound [] i less all = absurd (omega (arith, less))
below_at bound (n ∷ rest) zero less all = all.0
below_at bound (n ∷ rest) (suc i) less all = below_at bound rest i (omega (arith, less)) all.1
