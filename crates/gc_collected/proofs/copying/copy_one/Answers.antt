-- The field's word is read, and written as a word of the target with the same value.
use Rattle.std.proofs.Common.{◌≡◌, ℕ, Some, Option, true, is_some, ap, sym, ◌∙◌, subst}
use Rattle.std.specs.Prelude.{IfSome}
use Rattle.gc_graph.specs.Machine.{is_number}
use Rattle.gc_words.specs.Closed.{IsFieldWord}
use Rattle.gc_words.specs.Image.{field_at}
use Rattle.gc_words.specs.Word.{field_value, value_of}
use Rattle.gc_words.proofs.Public.{field_within}
use Rattle.gc_heap.specs.Filling.{PutsValue}
use Rattle.gc_heap.specs.Heap.{graph_in}
use Rattle.gc_collected.specs.Copying.{value_in}
use Rattle.gc_collected.proofs.Copies.{value_read, word_read, word_taken}
use Rattle.gc_collected.proofs.copying.copy_one.Goals as goal
use Rattle.gc_collected.proofs.copying.copy_one.Goals.{After-field-field, After-field_word}

-- the word that was read
read : (c : After-field-field) → field_at c.args.heap.now.space.words c.args.source.0 c.args.j ≡ Some c.field-field.result
read c = subst (λ s. field_at s.words c.args.source.0 c.args.j ≡ Some c.field-field.result) c.space-2.ensures.value c.field-field.ensures

-- its value
value : (c : After-field-field) → value_in (graph_in c.args.heap.now) c.args.s c.args.j ≡ field_value c.args.giving c.field-field.result
value c = value_read c.args.heap.now c.args.s c.args.source.0 c.args.j c.field-field.result c.args.giving c.requires.source c.requires.giving (read c)

pub field-field-requires : goal.field-field-requires
field-field-requires c =
    subst (λ s. is_some (field_at s.words c.args.source.0 c.args.j) ≡ true) (sym c.space-2.ensures.value)
    (field_within c.args.heap.now.space.words c.args.source.0 c.args.j c.args.giving c.space.ensures.sound.space.walked c.requires.giving c.requires.fields.1)

pub root_word-word-requires : goal.root_word-word-requires
root_word-word-requires c =
    subst (λ s. IsFieldWord s.words c.args.giving c.field-field.result) (sym c.space-3.ensures.value)
    (word_read c.args.heap.now c.args.source.0 c.args.j c.field-field.result c.args.giving c.space.ensures.sound c.requires.giving (read (goal.at.root_word-word-requires c).After-field-field))

pub unwrap-taken-requires : goal.unwrap-taken-requires
unwrap-taken-requires c =
    let same : value_of c.root_word-word.result ≡ value_in (graph_in c.args.heap.now) c.args.s c.args.j = c.root_word-word.ensures.value ∙ sym (value (goal.at.unwrap-taken-requires c).After-field-field) in
    word_taken c.field_word.result c.args.taking.raw (is_number (value_of c.root_word-word.result)) c.field_word.ensures.refused (λ raw. ap is_number same ∙ c.requires.taken raw)

pub returns-clause-puts : goal.returns-clause-puts
returns-clause-puts c =
    let same : value_of c.root_word-word.result ≡ value_in (graph_in c.args.heap.now) c.args.s c.args.j = c.root_word-word.ensures.value ∙ sym (value (goal.at.returns-clause-puts c).After-field-field) in
    let taken : field_value c.args.taking c.unwrap-taken.result ≡ value_of c.root_word-word.result
    = subst (λ (o : Option ℕ). IfSome o (λ w. field_value c.args.taking w ≡ value_of c.root_word-word.result)) c.unwrap-taken.ensures c.field_word.ensures.value in
    subst (λ v. PutsValue c.args.heap.now c.args.d c.args.i v c.put_word.new.self) (taken ∙ same) c.put_word.ensures.puts
