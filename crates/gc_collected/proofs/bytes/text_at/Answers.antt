-- The object's field words are the words of the text.
use Rattle.std.proofs.Common.{◌≡◌, Some, length, ap, sym, subst, ◌∙◌, arith}
use Rattle.std.specs.Prelude.{IsTrue}
use Rattle.std.specs.Option.{option_map}
use Rattle.gc_words.specs.Image.{Block, block_at, header_at, is_start}
use Rattle.gc_collected.proofs.Copies.{fields_there}
use Rattle.gc_collected.proofs.Texts.{text_starts, text_words}
use Rattle.gc_collected.proofs.bytes.text_at.Goals as goal
use Rattle.gc_collected.proofs.bytes.text_at.Goals.{After-fields}

pub header-requires : goal.header-requires
header-requires c = subst (λ s. IsTrue (is_start s.words c.args.text.object.0)) (sym c.space.ensures.value) (text_starts c.args.heap.now.space.words c.args.text.object.0 c.args.text.count c.requires)

pub fields-requires : goal.fields-requires
fields-requires c = subst (λ s. IsTrue (is_start s.words c.args.text.object.0)) (sym c.space-2.ensures.value) (text_starts c.args.heap.now.space.words c.args.text.object.0 c.args.text.count c.requires)

are : (c : After-fields) (b : Block) → block_at c.args.heap.now.space.words c.args.text.object.0 ≡ Some b → c.fields.result.now ≡ b.fields
are c b is = c.fields.ensures.value b (subst (λ s. block_at s.words c.args.text.object.0 ≡ Some b) (sym c.space-2.ensures.value) is)

pub with_length-requires-clause-few : goal.with_length-requires-clause-few
with_length-requires-clause-few c =
    let met = subst (λ s. header_at s.words c.args.text.object.0 ≡ Some c.header.result) c.space.ensures.value c.header.ensures in
    let counted = fields_there c.args.heap.now c.args.text.object.0 c.header.result c.fields.result.now c.space.ensures.sound met (are (goal.at.with_length-requires-clause-few c).After-fields) in
    omega (arith, counted, c.header.type_inv)

pub with_length-requires-clause-counted : goal.with_length-requires-clause-counted
with_length-requires-clause-counted c =
    ap (option_map length) (sym (text_words c.args.heap.now.space.words c.fields.result.now c.args.text.object.0 c.args.text.count c.requires (are (goal.at.with_length-requires-clause-counted c).After-fields))) ∙ c.requires

pub returns : goal.returns
returns c = c.with_length.ensures ∙ sym (text_words c.args.heap.now.space.words c.fields.result.now c.args.text.object.0 c.args.text.count c.requires (are (goal.at.returns c).After-fields))
