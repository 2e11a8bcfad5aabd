-- The value that was read is written.
use Rattle.std.proofs.Common.{◌≡◌, ◌<◌, suc, length, ap, sym, ◌∙◌, subst}
use Rattle.std.specs.Option.{unwrap_or}
use Rattle.gc_graph.specs.Graph as graphs
use Rattle.gc_graph.specs.Graph.{Value, object_of, field_of, root}
use Rattle.gc_graph.specs.Machine.{put_field}
use Rattle.gc_words.specs.Word.{value_of}
use Rattle.gc_heap.specs.Heap.{HeapWords, graph_in}
use Rattle.gc_heap.proofs.Public.{meaning}
use Rattle.gc_concurrent.specs.Bulk.{value_in}
use Rattle.gc_concurrent.specs.Holders.{heap_in}
use Rattle.gc_concurrent.specs.Machines.{PutsValue}
use Rattle.gc_concurrent.proofs.Values.{puts_value}
use Rattle.gc_concurrent.proofs.commands.Commander.copy_one.Goals as goal
use Rattle.gc_concurrent.proofs.commands.Commander.copy_one.Goals.{in-Ok, in-Err}

pub write-requires-clause-room : goal.write-requires-clause-room
write-requires-clause-room c = c.fetched.ensures.room 1 c.requires.room

pub returns-clause-room : goal.returns-clause-room
returns-clause-room c n room = c.write.ensures.room n (c.fetched.ensures.room (suc n) room)

pub returns-clause-step : goal.returns-clause-step
returns-clause-step c =
    let old : HeapWords = heap_in c.fetched.new.self in
    let new : HeapWords = heap_in c.write.new.self in
    let v : Value = value_in (graph_in (heap_in c.args.self.now)) c.args.s c.args.j in
    let means : value_of c.match-fetched.word ≡ v = elim c.match-fetched.branch [
      | in-Ok w ↦ ap value_of w.word-is ∙ sym (ap (λ o. unwrap_or o graphs.Nil) w.in-Ok.ensures.value)
      | in-Err w ↦ ap value_of w.word-is ∙ meaning w.encode-word.result graphs.Nil w.encode-word.ensures.read_back ∙ sym (ap (λ o. unwrap_or o graphs.Nil) w.in-Err.ensures.none)
    ] in
    let object = object_of (graph_in old).objects (root (graph_in old) c.args.d) in
    let less : c.args.d < length old.roots = subst (λ (h : HeapWords). c.args.d < length h.roots) (sym c.fetched.ensures.heap) c.requires.target in
    subst (λ h. PutsValue c.args.d c.args.i v h c.write.result new) c.fetched.ensures.heap
    (puts_value old new c.args.d c.args.i v c.write.result less
    (record {
      roots = c.write.ensures.roots;
      words = c.write.ensures.end.0;
      size = c.write.ensures.end.1;
      graph = c.write.ensures.graph ∙ ap (λ (v : Value). put_field (graph_in old) (root (graph_in old) c.args.d) object (field_of object c.args.i) c.args.i v) means;
    }))
