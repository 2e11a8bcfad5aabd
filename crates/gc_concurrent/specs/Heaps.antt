-- The heap of a mutator, and how a mutator finds it after a safepoint.
use Rattle.std.specs.Prelude.{ℕ, List, ◌≡◌, ◌⊎◌}
use Rattle.gc_heap.specs.Heap.{HeapWords, graph_in}
use Rattle.gc_graph.specs.Correspond.{Corresponding}
use Rattle.gc_concurrent.specs.Ends.{Mine, one_heap}

-- the mutator's space, with its roots
abbrev pub heap_of : Mine → List ℕ → HeapWords
heap_of mine roots = one_heap mine.space roots

-- some pairs of objects make the graphs of the two heaps correspond
abbrev pub CorrespondsTo : HeapWords → HeapWords → Type 0
CorrespondsTo old new = (pairs : List (ℕ × ℕ)) × Corresponding pairs (graph_in old) (graph_in new)

-- The mutator finds its heap as it was, or one whose graph corresponds to it.
abbrev pub GoesOnIn : HeapWords → HeapWords → Type 0
GoesOnIn old new = (new ≡ old) ⊎ CorrespondsTo old new
