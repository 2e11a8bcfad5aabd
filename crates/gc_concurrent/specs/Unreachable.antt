-- What a collection may copy: no object that was unreachable when the collection began, unless a reference was since made from an address alone.
use Rattle.std.specs.Prelude.{◌≡◌, ℕ, false, ◌<◌}
use Rattle.gc_words.specs.Space.{end_of}
use Rattle.gc_graph.specs.Graph.{Reachable}
use Rattle.gc_heap.specs.Heap.{HeapWords, graph_in}
use Rattle.gc_model.specs.State.{Replica}
use Rattle.gc_model.specs.Members.{In}
use Rattle.gc_concurrent.specs.Ends.{Beginning, Theirs}

-- The address lies among the objects of this heap, and no root of the heap reaches it.
abbrev pub IsUnreachable : HeapWords → ℕ → Type 0
IsUnreachable base name = (name < end_of base.space) × (Reachable (graph_in base) name → ⊥)

-- Reachable when the collection began, or made since. A reference from an address may lead anywhere, so after one every object may be copied.
abbrev pub MayBeCopied : Beginning → ℕ → Type 0
MayBeCopied b name = b.referred ≡ false → IsUnreachable b.heap name → ⊥

-- No replica is that of an object which was unreachable when the collection began.
abbrev pub CopiesNothingUnreachable : Theirs → Type 0
CopiesNothingUnreachable t = (r : Replica) → In r t.replicas → IsUnreachable t.base r.original → ⊥
