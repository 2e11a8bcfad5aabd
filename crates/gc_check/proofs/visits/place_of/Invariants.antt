-- No word of the node so far refers to the address.
use Rattle.std.proofs.Common.{◌≡◌, ℕ, ◌<◌, Some}
use Rattle.std.specs.Prelude.{slice_get}
use Rattle.gc_check.specs.Internal.Visits.{references}
use Rattle.gc_check.proofs.visits.place_of.Given as goal

-- the words so far do not refer to the address
abbrev pub invariant-loop-i : goal.invariant-loop-i
invariant-loop-i l = (k : ℕ) → k < l.i → slice_get (references l.words) k ≡ Some (Some l.address) → ⊥
