-- The fields so far have their values, and giving the rest gives all.
use Rattle.std.proofs.Common.{◌≡◌, Some, drop}
use Rattle.gc_words.specs.Image.{header_at}
use Rattle.gc_heap.specs.Heap.{HeapWords, graph_in}
use Rattle.gc_heap.specs.Filling.{PutsAll}
use Rattle.gc_collected.specs.Internal.Given.{given_from}
use Rattle.gc_collected.proofs.giving.give_each.Given as goal

abbrev pub invariant-loop-i : goal.invariant-loop-i
invariant-loop-i g l = record {
  rest : (new : HeapWords) → PutsAll l.heap l.d (given_from (graph_in l.fn.heap).roots l.i (drop l.i (g.R.ValueRow.values l.fields))) new → PutsAll l.fn.heap l.d (given_from (graph_in l.fn.heap).roots 0 (g.R.ValueRow.values l.fields)) new;
  roots : l.heap.roots ≡ l.fn.heap.roots;
  header : header_at l.heap.space.words l.object.0 ≡ Some l.header;
}
