-- What is read at the object's address is the value of the graph's field.
use Rattle.std.proofs.Common.{◌≡◌, true, Some, None, ap, sym, ◌∙◌, subst, arith, is_some}
use Rattle.std.specs.Option.{option_map}
use Rattle.gc_graph.specs.Graph.{Value}
use Rattle.gc_words.specs.Closed.{IsFieldWord}
use Rattle.gc_words.specs.Image.{field_at, header_at}
use Rattle.gc_words.specs.Word.{field_value}
use Rattle.gc_words.specs.declared.header.Header.{Header}
use Rattle.gc_words.proofs.Public.{block_of_header, field_found, field_past, field_within}
use Rattle.gc_collected.proofs.Copies.{word_read}
use Rattle.gc_collected.proofs.viewing.word_at.Goals as goal
use Rattle.gc_collected.proofs.viewing.word_at.Goals.{After-len}

-- the header that was read
header : (c : After-len) → header_at c.args.heap.now.space.words c.args.a.0 ≡ Some c.header-header.result
header c = subst (λ s. header_at s.words c.args.a.0 ≡ Some c.header-header.result) c.space-space.ensures.value c.header-header.ensures

pub returns-then-i-from-clause-value : goal.returns-then-i-from-clause-value
returns-then-i-from-clause-value c =
    let words = c.args.heap.now.space.words in
    let met = header (goal.at.returns-then-i-from-clause-value c).After-len in
    let block = block_of_header words c.args.a.0 c.header-header.result met in
    let none : field_at words c.args.a.0 c.args.i ≡ None = field_past words c.args.a.0 c.args.i c.header-header.result c.space-space.ensures.sound.space.walked met (omega (arith, c.len.ensures, c.from.ensures, c.if-i-from.true)) in
    sym (field_found words c.args.a.0 c.args.i block.0 block.1 ∙ ap (option_map (field_value block.0.header)) none)

pub field-field-requires : goal.field-field-requires
field-field-requires c =
    subst (λ s. is_some (field_at s.words c.args.a.0 c.args.i) ≡ true) (sym c.space-space.ensures.value)
    (field_within c.args.heap.now.space.words c.args.a.0 c.args.i c.header-header.result c.space-space.ensures.sound.space.walked (header (goal.at.field-field-requires c).After-len) (omega (arith, c.len.ensures, c.from.ensures, c.if-i-from.false)))

pub root_word-requires : goal.root_word-requires
root_word-requires c =
    let read = subst (λ s. field_at s.words c.args.a.0 c.args.i ≡ Some c.field-field.result) c.space-space.ensures.value c.field-field.ensures in
    subst (λ s. IsFieldWord s.words c.header-header.result c.field-field.result) (sym c.space-space.ensures.value)
    (word_read c.args.heap.now c.args.a.0 c.args.i c.field-field.result c.header-header.result c.space-space.ensures.sound (header (goal.at.root_word-requires c).After-len) read)

pub returns-clause-value : goal.returns-clause-value
returns-clause-value c =
    let words = c.args.heap.now.space.words in
    let met = header (goal.at.returns-clause-value c).After-len in
    let block = block_of_header words c.args.a.0 c.header-header.result met in
    let read = subst (λ s. field_at s.words c.args.a.0 c.args.i ≡ Some c.field-field.result) c.space-space.ensures.value c.field-field.ensures in
    ap (λ (v : Value). Some v) (c.root_word.ensures.value ∙ ap (λ (k : Header). field_value k c.field-field.result) (sym block.2))
    ∙ sym (field_found words c.args.a.0 c.args.i block.0 block.1 ∙ ap (option_map (field_value block.0.header)) read)
