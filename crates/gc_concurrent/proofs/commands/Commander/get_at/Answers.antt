-- What was read is what the machine's `Get` puts into the root.
use Rattle.std.proofs.Common.{◌≡◌, ap, ◌∙◌}
use Rattle.std.specs.Prelude.{slice_set}
use Rattle.gc_graph.specs.Machine.{view_of}
use Rattle.gc_graph.specs.declared.reply.Reply.TheVariants.{Saw}
use Rattle.gc_words.specs.Word.{value_of}
use Rattle.gc_heap.specs.Heap.{HeapWords, graph_in}
use Rattle.gc_concurrent.specs.Holders.{heap_in}
use Rattle.gc_concurrent.proofs.commands.Commander.get_at.Goals as goal

pub returns-in-Err-clause-graph : goal.returns-in-Err-clause-graph
returns-in-Err-clause-graph c = (λ i. (c.in-Err.reply, graph_in (c.fetched.ensures.heap i))) ∙ c.in-Err.ensures.missed c.args.d

pub returns-clause-graph : goal.returns-clause-graph
returns-clause-graph c =
    let h : HeapWords = heap_in c.args.self.now in
    let same : heap_in c.view-seen.new.self ≡ h = c.view-seen.ensures.heap ∙ c.fetched.ensures.heap in
    let seen = c.view-seen.ensures.value ∙ (λ i. view_of (graph_in (c.fetched.ensures.heap i)).objects (value_of c.in-Ok.word)) in
    let made : graph_in (heap_in c.set_at-done.new.self) ≡ graph_in (record h { roots = slice_set h.roots c.args.d c.in-Ok.word })
    = ap graph_in c.set_at-done.ensures.heap ∙ (λ i. graph_in (record (same i) { roots = slice_set (same i).roots c.args.d c.in-Ok.word })) in
    (λ i. (Saw (seen i), made i)) ∙ c.in-Ok.ensures.got c.args.d
