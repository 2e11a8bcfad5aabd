-- An object without the field has none to get.
use Rattle.std.proofs.Common.{◌≡◌, ℕ, Option, Some, None, ap, refl, sym, ◌∙◌}
use Rattle.std.specs.Option.{option_map}
use Rattle.gc_graph.specs.Graph.{Object, Value, field_of, lookup, object_of, root}
use Rattle.gc_graph.specs.Machine.{get_field}
use Rattle.gc_words.specs.Image.{block_at, object_of_block}
use Rattle.gc_words.specs.Word.{value_of}
use Rattle.gc_words.proofs.Public.{object_found, some_of}
use Rattle.gc_heap.specs.Heap.{HeapWords, graph_in}
use Rattle.gc_heap.proofs.Public.{named}
use Rattle.gc_collected.proofs.viewing.peek.Goals as goal

no_word : (o : Option ℕ) → ((x : ℕ) → o ≡ Some x → ⊥) → o ≡ None
no_word None never = refl
no_word (Some x) never = absurd (never x refl)

pub returns-in_default-word_at : goal.returns-in_default-word_at
returns-in_default-word_at c =
    let h : HeapWords = c.args.heap.now in
    let g = graph_in h in
    let a = c.in-Some.at.0 in
    let b = some_of (block_at h.space.words a) c.in-Some.ensures.start in
    let found : object_of g.objects (root g c.args.s) ≡ lookup g.objects a = ap (object_of g.objects) (named (root g c.args.s) a c.in-Some.ensures.name) in
    let there : lookup g.objects a ≡ Some (object_of_block b.0) = object_found h.space.words a ∙ ap (option_map object_of_block) b.1 in
    let none : field_of (lookup g.objects a) c.args.i ≡ None = sym c.word_at.ensures.value ∙ ap (option_map value_of) (no_word c.word_at.result c.in_default-word_at.not-Some) in
    sym (ap (λ (o : Option Object). (get_field g c.args.s o (field_of o c.args.i)).0) found
    ∙ (ap (λ (f : Option Value). (get_field g c.args.s (lookup g.objects a) f).0) none ∙ ap (λ (o : Option Object). (get_field g c.args.s o None).0) there))
