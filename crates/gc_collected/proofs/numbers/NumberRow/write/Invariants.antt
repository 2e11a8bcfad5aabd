-- The fields so far have their numbers, and writing the rest writes all. The objects that the numbers are read from are as before.
use Rattle.std.proofs.Common.{◌≡◌, ◌+◌, Some, drop}
use Rattle.gc_words.specs.Image.{header_at}
use Rattle.gc_heap.specs.Heap.{HeapWords, graph_in}
use Rattle.gc_heap.specs.Filling.{PutsAll, numbered}
use Rattle.gc_collected.specs.Internal.Numbered.{Sources, sources_at}
use Rattle.gc_collected.proofs.numbers.NumberRow.write.Given as goal

abbrev pub invariant-loop-k : goal.invariant-loop-k
invariant-loop-k g l =
    let names = g.Self.NumberRow.names l.self in
    let numbers = g.Self.NumberRow.numbers l.self (sources_at (graph_in l.fn.heap) names) in
    record {
      rest : (new : HeapWords) → PutsAll l.heap l.s (numbered (l.first + l.k) (drop l.k numbers)) new → PutsAll l.fn.heap l.s (numbered l.first numbers) new;
      roots : l.heap.roots ≡ l.fn.heap.roots;
      header : header_at l.heap.space.words l.object.0 ≡ Some l.header;
      sources : ◌≡◌ {A = Sources} (sources_at (graph_in l.heap) names) (sources_at (graph_in l.fn.heap) names);
    }
