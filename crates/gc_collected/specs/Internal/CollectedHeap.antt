-- How the heap, the open collection and the logs of a collected heap fit together.
use Rattle.std.specs.Prelude.{ℕ, ◌≤◌, IfSome, Option, Some, None}
use Rattle.std.specs.Option.{option_map}
use Rattle.gc_heap.specs.Heap.{HeapWords}
use Rattle.gc_model.specs.State.{State}
use Rattle.gc_copy.specs.Words.{CollectionWords, LinksNothing, BelongsTo, collection_in, spare_of, state_of}

-- the collection belongs to the heap; if none is open, no object has a link above the mark of this epoch
abbrev pub Fits : ℕ → HeapWords → Option CollectionWords → Type 0
Fits epoch heap None = LinksNothing epoch heap
Fits epoch heap (Some c) = BelongsTo heap c

-- the open collection, if there is one, belongs to the heap
abbrev pub BelongsIfOpen : HeapWords → Option CollectionWords → Type 0
BelongsIfOpen heap o = IfSome o (BelongsTo heap)

-- the state of a heap and of the collection that is open, if there is one
abbrev pub state_in : HeapWords → Option CollectionWords → State
state_in heap o = state_of heap (option_map collection_in o)

-- if a collection is open, mutator m's log has room for so many further entries
abbrev pub HasSpare : Option CollectionWords → ℕ → ℕ → Type 0
HasSpare o m n = IfSome o (λ c. n ≤ spare_of c m)
