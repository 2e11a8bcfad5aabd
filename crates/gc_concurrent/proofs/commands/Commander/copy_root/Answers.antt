-- A root takes the word of another one.
use Rattle.std.proofs.Common.{◌≡◌, refl, subst}
use Rattle.std.specs.Prelude.{slice_index}
use Rattle.gc_graph.specs.Graph.{set_root}
use Rattle.gc_graph.specs.declared.command.Op.TheVariants.{Move}
use Rattle.gc_graph.specs.declared.reply.Reply.TheVariants.{Done}
use Rattle.gc_words.specs.Word.{value_of}
use Rattle.gc_heap.specs.Heap.{HeapWords, graph_in}
use Rattle.gc_heap.specs.Places.{root_at}
use Rattle.gc_heap.proofs.Public.{read_root, at_root, took_root}
use Rattle.gc_model.specs.Belonging.{RefersTo}
use Rattle.gc_concurrent.specs.Unreachable.{MayBeCopied}
use Rattle.gc_concurrent.specs.Holders.{heap_in}
use Rattle.gc_concurrent.proofs.Keeping.{root_refers_to}
use Rattle.gc_concurrent.proofs.commands.Commander.copy_root.Goals as goal

pub set_at-requires-clause-allowed : goal.set_at-requires-clause-allowed
set_at-requires-clause-allowed c =
    let h : HeapWords = heap_in c.args.self.now in
    let read : c.index-word.result.now ≡ slice_index h.roots c.args.s = read_root h h.roots c.args.s _ refl c.requires.giver c.index-word.ensures in
    let allowed = MayBeCopied c.args.self.now.mutator.seat.me.0.mine.base in
    subst (RefersTo allowed) (at_root h c.args.s c.index-word.result.now read) (root_refers_to allowed (graph_in h) c.args.s c.args.self.now.leads)

pub returns-clause-step : goal.returns-clause-step
returns-clause-step c =
    let h : HeapWords = heap_in c.args.self.now in
    let read : c.index-word.result.now ≡ slice_index h.roots c.args.s = read_root h h.roots c.args.s _ refl c.requires.giver c.index-word.ensures in
    (took_root h (heap_in c.set_at.new.self) 0 (Move (root_at c.args.d) (root_at c.args.s)) c.args.d c.index-word.result.now (value_of c.index-word.result.now) c.set_at.result (λ none. none)
    (λ i. (Done, set_root (graph_in h) c.args.d (at_root h c.args.s c.index-word.result.now read i))) (λ i. value_of c.index-word.result.now) c.set_at.ensures.done c.set_at.ensures.heap).step
