-- What becomes of a handle whose heap is lent.
use Rattle.std.specs.Prelude.{Some}
use Rattle.std.specs.Borrow.{Lends, MutBor, Fml}
use Rattle.gcflip_heap_c.specs.declared.handle.GcflipHeap.{GcflipHeap}
use Rattle.gcflip_heap_c.specs.contracts.handle.GcflipHeap.{the_row}
use Rattle.gc_collected.specs.contracts.collected_heap.CollectedHeap as Heap

-- the handle after its heap became this one
abbrev pub with_heap : GcflipHeap → Heap.the_row.Denot → GcflipHeap
with_heap handle heap = record handle { state = Some heap.core; beside = heap.beside; roots_left = heap.roots_left }

-- once the borrow of the heap ends, the handle has its last value
abbrev pub LendsHeap : MutBor GcflipHeap → MutBor Heap.the_row.Denot → Fml
LendsHeap handle heap = Lends the_row Heap.the_row handle heap (with_heap handle.now)
