-- The root means what the word means.
use Rattle.std.proofs.lemmas.Grind.{common_steps}
use Rattle.std.proofs.Common.{arith}
use Rattle.gc_words.proofs.Public.{graph_root}
use Rattle.gc_heap.proofs.heap.Heap.set_root.Goals as goal

pub returns-clause-graph : goal.returns-clause-graph
returns-clause-graph c = grind (arith, common_steps, graph_root)
