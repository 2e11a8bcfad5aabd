-- The twins so far are right, and the others are as they were.
use Rattle.std.proofs.Common.{◌≡◌, ℕ, ◌<◌, ◌≤◌, length}
use Rattle.std.specs.Prelude.{slice_index}
use Rattle.gc_graph.specs.Graph.{root}
use Rattle.gc_heap.specs.Heap.{graph_in}
use Rattle.gc_copy.specs.Twins.{IsTwin}
use Rattle.gc_copy.specs.Words.{collection_in}
use Rattle.gc_roots.proofs.root_twins.write_twins.Given as goal

abbrev pub invariant-loop-place : goal.invariant-loop-place
invariant-loop-place l = record {
  len : length l.twins ≡ length l.fn.twins;
  right : (p : ℕ) → l.from ≤ p → p < l.place → IsTwin (collection_in l.collection) (root (graph_in l.heap) p) (slice_index l.twins p);
  before : (p : ℕ) → p < l.from → slice_index l.twins p ≡ slice_index l.fn.twins p;
  behind : (p : ℕ) → l.place ≤ p → slice_index l.twins p ≡ slice_index l.fn.twins p;
}
