-- What was taken away so far is nil.
use Rattle.std.proofs.Common.{◌≡◌, ℕ, ◌+◌, ◌<◌, ◌≤◌}
use Rattle.gc_graph.specs.Graph.{Nil, root}
use Rattle.gc_heap.specs.Heap.{graph_in}
use Rattle.gc_roots.proofs.root_twins.in_use.Given as goal

abbrev pub invariant-loop-nils : goal.invariant-loop-nils
invariant-loop-nils l = record {
  low : l.used ≤ l.left + l.nils;
  high : l.left ≤ l.used;
  nil : (k : ℕ) → l.left ≤ k → k < l.used → root (graph_in l.heap) (l.slots + k) ≡ Nil;
}
