-- The fields so far have the value, and filling the rest fills all.
use Rattle.std.proofs.Common.{◌≡◌, Some, ◌+◌, ◌-◌}
use Rattle.gc_words.specs.Closed.{IsFieldWord}
use Rattle.gc_words.specs.Image.{header_at}
use Rattle.gc_words.specs.Word.{field_value}
use Rattle.gc_heap.specs.Heap.{HeapWords}
use Rattle.gc_heap.specs.Filling.{PutsAll}
use Rattle.gc_collected.specs.Internal.Given.{same_from}
use Rattle.gc_collected.proofs.copying.fill_each.Given as goal

abbrev pub invariant-loop-k : goal.invariant-loop-k
invariant-loop-k l = record {
  rest : (new : HeapWords) → PutsAll l.heap l.s (same_from (l.from + l.k) (l.count - l.k) (field_value l.header l.word)) new → PutsAll l.fn.heap l.s (same_from l.from l.count (field_value l.header l.word)) new;
  roots : l.heap.roots ≡ l.fn.heap.roots;
  header : header_at l.heap.space.words l.object.0 ≡ Some l.header;
  word : IsFieldWord l.heap.space.words l.header l.word;
}
