-- Either the field's target has a replica and the moved word brings the field up to date, or the model has no room for one either.
use Rattle.std.proofs.lemmas.Grind.{common_steps}
use Rattle.std.proofs.Common.{ap, arith}
use Rattle.gc_words.specs.Image.{blocks}
use Rattle.gc_words.specs.Space.{SpaceWords}
use Rattle.gc_copy.specs.contracts.collection.Collection.{the_view}
use Rattle.gc_copy.specs.Words.{CollectionWords}
use Rattle.gc_copy.proofs.FieldWords.{read_in_heap}
use Rattle.gc_copy.proofs.Spaces.{count_written}
use Rattle.gc_copy.proofs.OpenCollection.{if_err, field_word_is, plain_value_is, present, Brought, brought_words}
use Rattle.gc_copy.proofs.collection.Collection.move_field.Goals as goal

pub replicated_word-requires-clause-word : goal.replicated_word-requires-clause-word
replicated_word-requires-clause-word c = field_word_is c.args.heap.now c.args.original.0 c.args.field c.field-word.result c.space.ensures.sound c.requires.plain (read_in_heap c.args.heap.now _ _ _ _ c.space.ensures.value c.field-word.ensures)

pub returns-in_err-moved-clause-full : goal.returns-in_err-moved-clause-full
returns-in_err-moved-clause-full c = grind (arith, common_steps, plain_value_is, read_in_heap, if_err)

pub set_field-requires : goal.set_field-requires
set_field-requires c =
    let x : CollectionWords = the_view c.self.inside in
    present c.args.heap.now c.replicated_word.new.heap c.args.self.now c.replicated_word.new.self x c.args.original.0 c.args.field c.field-word.result c.args.replica.0 c.space.ensures.sound c.requires.plain c.self.invariant.0 c.self.view_is
    c.in_ok-moved.ensures.belongs c.in_ok-moved.ensures.graph c.in_ok-moved.ensures.rest c.in_ok-moved.ensures.starts (read_in_heap c.args.heap.now _ _ _ _ c.space.ensures.value c.field-word.ensures)
    c.in_ok-moved.ensures.placed c.in_ok-moved.ensures.replica c.requires.replica

done : (c : goal.After-set_field) → Brought c.args.heap.now c.replicated_word.new.heap c.args.self.now (record (the_view c.self.inside) { space = c.set_field.new.self }) c.args.original.0 c.args.field
done c =
    let x : CollectionWords = the_view c.self.inside in
    brought_words c.args.heap.now c.replicated_word.new.heap c.args.self.now c.replicated_word.new.self x c.args.original.0 c.args.field c.field-word.result c.args.replica.0 c.space.ensures.sound c.requires.plain c.self.invariant.0 c.self.view_is
    c.in_ok-moved.ensures.belongs c.in_ok-moved.ensures.graph c.in_ok-moved.ensures.rest c.in_ok-moved.ensures.starts (read_in_heap c.args.heap.now _ _ _ _ c.space.ensures.value c.field-word.ensures)
    c.in_ok-moved.ensures.placed c.in_ok-moved.ensures.replica c.requires.replica
    c.in_ok-moved.moved c.in_ok-moved.ensures.word (record x { space = c.set_field.new.self }) (ap (λ (s : SpaceWords). record x { space = s }) c.set_field.ensures.words)

pub invariant_of-self : goal.invariant_of-self
invariant_of-self c = ((done c).sound, count_written c.self.inside.replicas (blocks c.self.inside.space.words) (blocks c.set_field.new.self.words) _ _ _ c.self.invariant.1 c.set_field.ensures.objects)

pub returns-clause-brought : goal.returns-clause-brought
returns-clause-brought c = (done c).brought

pub returns-clause-belongs : goal.returns-clause-belongs
returns-clause-belongs c = (done c).belongs

pub returns-clause-rest : goal.returns-clause-rest
returns-clause-rest c = (done c).rest

pub returns-clause-starts : goal.returns-clause-starts
returns-clause-starts c = (done c).starts
