-- What a mutator handed over, and what its collector took.
use Rattle.gc_heap.specs.Heap.{HeapWords}
use Rattle.gc_concurrent.specs.Moves.{Situation}
use Rattle.gc_concurrent.specs.declared.handshake.Waiting.{Waiting}
use Rattle.gc_concurrent.specs.declared.handshake.Holding.{Holding}

-- what the mutator had when it stopped
abbrev pub situation_left : Waiting → Situation
situation_left w = w.seat.me.0.goer.left

-- the heap with which it stopped
abbrev pub heap_left : Waiting → HeapWords
heap_left w = (situation_left w).heap

-- what the mutator had that a collector holds
abbrev pub situation_taken : Holding → Situation
situation_taken h = h.seat.me.0.keeper.took
