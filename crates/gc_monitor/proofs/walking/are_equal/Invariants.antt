-- The words before this place are equal, or a difference was found among them.
use Rattle.std.proofs.Common.{◌≡◌, ℕ, ◌<◌}
use Rattle.std.specs.Prelude.{◌↔◌, IsTrue, slice_index}
use Rattle.gc_monitor.proofs.walking.are_equal.Given as goal

-- no difference was found exactly if the words before this place are equal
abbrev pub invariant-loop-k : goal.invariant-loop-k
invariant-loop-k l = IsTrue l.same ↔ ((j : ℕ) → j < l.k → slice_index l.one j ≡ slice_index l.other j)
