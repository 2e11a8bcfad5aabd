-- Each field takes the word that stands for what root t holds.
use Rattle.std.proofs.Common.{◌≡◌, ℕ, ap, subst, sym, ◌∙◌, arith}
use Rattle.std.specs.Prelude.{IfSome, Option, slice_index_or}
use Rattle.std.proofs.lemmas.List.{length-map}
use Rattle.gc_graph.specs.Graph.{root}
use Rattle.gc_words.specs.Word.{field_value, value_of}
use Rattle.gc_heap.specs.Heap.{HeapWords, graph_in}
use Rattle.gc_heap.proofs.Public.{at_root}
use Rattle.gc_collected.specs.Internal.CollectedHeap.{state_in}
use Rattle.gc_collected.specs.Internal.Given.{puts_step, same_from}
use Rattle.gc_collected.proofs.Runs.{fills_are}
use Rattle.gc_collected.proofs.copying.fill_values.Goals as goal

pub returns-clause-step : goal.returns-clause-step
returns-clause-step c =
    let h : HeapWords = c.args.heap.now in
    let word : ℕ = slice_index_or c.roots.result.now c.args.t 0 in
    let n = length-map h.roots value_of in
    let value : field_value c.unwrap.result.1 c.unwrap-word.result ≡ root (graph_in h) c.args.t =
    subst (λ (o : Option ℕ). IfSome o (λ w. field_value c.unwrap.result.1 w ≡ value_of word)) c.unwrap-word.ensures c.field_word.ensures.value
    ∙ sym (at_root h c.args.t word (λ k. slice_index_or (c.roots.ensures.value k) c.args.t 0)) in
    let s = state_in h c.args.collection.now in
    fills_are c.args.count s c.args.m c.args.s c.args.from c.args.t (omega (arith, n, c.requires.target))
    ∙ (ap (λ v. puts_step s c.args.m c.args.s (same_from c.args.from c.args.count v)) (sym value) ∙ c.put_words.ensures.step)
