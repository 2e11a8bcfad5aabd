-- What was read is what a `Get` would have seen.
use Rattle.std.proofs.Common.{refl, sym, ◌∙◌, subst}
use Rattle.std.specs.Prelude.{slice_set}
use Rattle.gc_graph.specs.Machine.{view_of}
use Rattle.gc_graph.specs.declared.reply.Reply.TheVariants.{Saw}
use Rattle.gc_words.specs.Word.{value_of}
use Rattle.gc_heap.specs.Heap.{HeapWords, graph_in}
use Rattle.gc_heap.proofs.Public.{taken_heap}
use Rattle.gc_concurrent.specs.Bulk.{Peeks}
use Rattle.gc_concurrent.specs.Holders.{heap_in}
use Rattle.gc_concurrent.proofs.Reading.{peeked}
use Rattle.gc_concurrent.proofs.commands.Commander.peek_root.Goals as goal

pub returns-in-Ok-clause-step : goal.returns-in-Ok-clause-step
returns-in-Ok-clause-step c =
    let h : HeapWords = heap_in c.args.self.now in
    let new : HeapWords = record h { roots = slice_set h.roots c.args.s c.in-Ok.word } in
    let seen = c.view.ensures.value ∙ (λ i. view_of (graph_in (c.fetched.ensures.heap i)).objects (value_of c.in-Ok.word)) in
    subst (λ v. Peeks c.args.s c.args.i h (Saw v)) (sym seen)
    (peeked h new c.args.s c.args.i (Saw (view_of (graph_in h).objects (value_of c.in-Ok.word))) (taken_heap h c.args.s c.in-Ok.word c.args.self.now.sound c.in-Ok.ensures.word) refl (c.in-Ok.ensures.got c.args.s))

pub returns-in-Err-clause-step : goal.returns-in-Err-clause-step
returns-in-Err-clause-step c = peeked (heap_in c.args.self.now) (heap_in c.args.self.now) c.args.s c.args.i c.in-Err.reply c.args.self.now.sound refl (c.in-Err.ensures.missed c.args.s)
