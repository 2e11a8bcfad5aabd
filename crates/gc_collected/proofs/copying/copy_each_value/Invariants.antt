-- The fields so far have the other object's values, and copying the rest copies all.
use Rattle.std.proofs.Common.{◌≡◌, Some, ◌+◌, ◌-◌}
use Rattle.gc_graph.specs.declared.reply.Reply.TheVariants.{Done}
use Rattle.gc_words.specs.Image.{header_at}
use Rattle.gc_heap.specs.Heap.{HeapWords, graph_in}
use Rattle.gc_heap.specs.Places.{root_at}
use Rattle.gc_collected.specs.Copying.{copy_reply, object_in}
use Rattle.gc_collected.specs.Internal.Given.{CopiesAll}
use Rattle.gc_collected.proofs.copying.copy_each_value.Given as goal

abbrev pub invariant-loop-k : goal.invariant-loop-k
invariant-loop-k l = record {
  rest : (new : HeapWords) → CopiesAll l.heap l.d (l.to + l.k) l.s (l.from + l.k) (l.count - l.k) new → CopiesAll l.fn.heap l.d l.to l.s l.from l.count new;
  roots : l.heap.roots ≡ l.fn.heap.roots;
  taking : header_at l.heap.space.words l.target.0 ≡ Some l.taking;
  giving : header_at l.heap.space.words l.source.0 ≡ Some l.giving;
  takes : copy_reply (l.to + l.k) (l.from + l.k) (l.count - l.k) (object_in (graph_in l.heap) (root_at l.d) 0) (object_in (graph_in l.heap) (root_at l.s) 0) ≡ Done;
}
