-- The word of a number is written.
use Rattle.std.proofs.Common.{◌≡◌, ◌<◌, length, ap, ◌∙◌, sym, subst}
use Rattle.gc_graph.specs.Graph as graphs
use Rattle.gc_graph.specs.Graph.{Value, Graph, object_of, field_of, root}
use Rattle.gc_graph.specs.Machine.{put_field}
use Rattle.gc_words.specs.Word.{value_of}
use Rattle.gc_heap.specs.Heap.{HeapWords, graph_in}
use Rattle.gc_heap.proofs.Public.{meaning}
use Rattle.gc_concurrent.specs.Holders.{heap_in}
use Rattle.gc_concurrent.specs.Machines.{PutsValue}
use Rattle.gc_concurrent.proofs.Values.{puts_value}
use Rattle.gc_concurrent.proofs.commands.Commander.put_number_root.Goals as goal

pub returns-clause-step : goal.returns-clause-step
returns-clause-step c =
    let old : HeapWords = heap_in c.reserve.new.self in
    let g : Graph = graph_in old in
    let object = object_of g.objects (root g c.args.s) in
    let less : c.args.s < length old.roots = subst (λ (h : HeapWords). c.args.s < length h.roots) (sym c.reserve.ensures.heap) c.requires in
    let means : value_of c.encode-number.result ≡ (graphs.Num c.args.n) = meaning c.encode-number.result (graphs.Num c.args.n) c.encode-number.ensures.read_back in
    subst (λ h. PutsValue c.args.s c.args.i (graphs.Num c.args.n) h c.write.result (heap_in c.write.new.self)) c.reserve.ensures.heap
    (puts_value old (heap_in c.write.new.self) c.args.s c.args.i (graphs.Num c.args.n) c.write.result less
    (record {
      roots = c.write.ensures.roots;
      words = c.write.ensures.end.0;
      size = c.write.ensures.end.1;
      graph = c.write.ensures.graph ∙ ap (λ (v : Value). put_field g (root g c.args.s) object (field_of object c.args.i) c.args.i v) means;
    }))
