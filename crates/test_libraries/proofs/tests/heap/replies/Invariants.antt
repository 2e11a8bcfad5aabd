-- After the commands so far, the heap still has a mutator.
use Rattle.std.proofs.Common.{◌<◌}
use Rattle.test_libraries.proofs.tests.heap.replies.Given as goal

abbrev pub invariant-loop-op : goal.invariant-loop-op
invariant-loop-op l = 0 < l.heap.mutators
