-- The rows so far have not changed the number of the world's mutators.
use Rattle.std.proofs.Common.{◌≡◌}
use Rattle.test_libraries.proofs.tests.world.rows.play.Given as goal

abbrev pub invariant-loop-place : goal.invariant-loop-place
invariant-loop-place g l = l.world.mutators ≡ l.initial.world.mutators
