-- So far, the target of every root from `from` on has a replica.
use Rattle.std.proofs.Common.{◌≤◌, ◌<◌, ℕ}
use Rattle.gc_graph.specs.Graph.{root}
use Rattle.gc_heap.specs.Heap.{graph_in}
use Rattle.gc_model.specs.Staying.{HasReplicaOf}
use Rattle.gc_copy.specs.Words.{collection_in}
use Rattle.gc_copy.proofs.collection.Collection.missing_root.Given as goal

-- every target so far has a replica
abbrev pub invariant-loop-place : goal.invariant-loop-place
invariant-loop-place l = (p : ℕ) → l.from ≤ p → p < l.place → HasReplicaOf (collection_in l.self) (root (graph_in l.heap) p)
