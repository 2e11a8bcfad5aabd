-- The root takes the other root's word, which is what the machine's `Move` leaves.
use Rattle.std.proofs.Common.{◌≡◌, ap, refl}
use Rattle.std.specs.Prelude.{slice_index}
use Rattle.gc_graph.specs.Graph.{root, set_root}
use Rattle.gc_graph.specs.declared.command.Op.TheVariants.{Move}
use Rattle.gc_graph.specs.declared.reply.Reply.TheVariants.{Done}
use Rattle.gc_words.specs.Word.{value_of}
use Rattle.gc_heap.specs.Heap.{HeapWords, graph_in}
use Rattle.gc_heap.specs.Places.{root_at}
use Rattle.gc_heap.proofs.Commands.{at_root, read_root}
use Rattle.gc_heap.proofs.Steps.{took_root}
use Rattle.gc_heap.proofs.heap.Heap.copy_root.Goals as goal

pub returns-clause-performs : goal.returns-clause-performs
returns-clause-performs c = λ m.
    let h : HeapWords = c.args.self.now in
    let read : c.index-word.result.now ≡ slice_index h.roots c.args.s = read_root h _ c.args.s _ (ap (λ (h : HeapWords). h.roots) c.self.view_is) c.requires.giver c.index-word.ensures in
    let given : root (graph_in h) c.args.s ≡ value_of c.index-word.result.now = at_root h c.args.s c.index-word.result.now read in
    took_root h c.set_at.new.self m (Move (root_at c.args.d) (root_at c.args.s)) c.args.d c.index-word.result.now (value_of c.index-word.result.now) c.set_at.result (λ none. none)
    (λ i. (Done, set_root (graph_in h) c.args.d (given i))) refl c.set_at.ensures.done c.set_at.ensures.heap
