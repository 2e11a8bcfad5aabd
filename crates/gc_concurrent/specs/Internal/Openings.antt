-- Cells that were just made.
use Rattle.gc_heap.specs.Heap.{HeapWords}
use Rattle.gc_concurrent.specs.Ends.{one_heap}
use Rattle.gc_concurrent.specs.declared.next.Opened.{Opened}

-- the heap with which they begin
abbrev pub heap_opened : Opened → HeapWords
heap_opened o = one_heap o.seat.me.0.mine.space o.roots.items
