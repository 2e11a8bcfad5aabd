-- After the commands so far, the plain machine still has its one mutator.
use Rattle.gc_graph.specs.Machine.{HasMutator}
use Rattle.test_libraries.proofs.tests.heap.plain_replies.Given as goal

abbrev pub invariant-loop-op : goal.invariant-loop-op
invariant-loop-op l = HasMutator l.plain.graph 0
