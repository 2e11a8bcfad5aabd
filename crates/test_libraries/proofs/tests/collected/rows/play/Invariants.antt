-- The rows so far have not changed the number of mutators.
use Rattle.std.proofs.Common.{◌≡◌}
use Rattle.test_libraries.proofs.tests.collected.rows.play.Given as goal

abbrev pub invariant-loop-place : goal.invariant-loop-place
invariant-loop-place g l = l.heap.core.mutators ≡ l.initial.heap.core.mutators
