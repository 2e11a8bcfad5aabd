-- Roots by the numbers that C gives them, which are their places.
use Rattle.std.specs.Prelude.{ℕ, ◌+◌, ◌<◌, ◌≤◌, length, List}
use Rattle.std.specs.List.{AllByRecursion}
use Rattle.gc_model.specs.State.{State}

-- the state has a root at each of these places
abbrev pub HasRoots : List ℕ → State → Type 0
HasRoots places s = AllByRecursion (λ p. p < length s.heap.graph.roots) places

-- the state has a root at each of so many places, from this one on
abbrev pub HasRootRange : ℕ → ℕ → State → Type 0
HasRootRange first count s = first + count ≤ length s.heap.graph.roots
