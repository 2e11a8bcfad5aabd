-- After the commands so far, no object has a link, and there are as many mutators as before.
use Rattle.std.proofs.Common.{◌≡◌}
use Rattle.gc_copy.specs.Words.{HasNoLinks}
use Rattle.test_libraries.proofs.tests.copy.rows.play_idle.Given as goal

abbrev pub invariant-loop-place : goal.invariant-loop-place
invariant-loop-place g l = HasNoLinks l.heap × l.heap.mutators ≡ l.initial.heap.mutators
