-- A raw object's field word is copied as it is, and then the field of its replica is up to date.
use Rattle.std.proofs.lemmas.Grind.{common_steps}
use Rattle.std.proofs.Common.{ap, arith}
use Rattle.gc_words.specs.Image.{blocks}
use Rattle.gc_words.specs.Space.{SpaceWords}
use Rattle.gc_copy.specs.contracts.collection.Collection.{the_view}
use Rattle.gc_copy.specs.Words.{CollectionWords}
use Rattle.gc_copy.proofs.FieldWords.{read_in_heap}
use Rattle.gc_copy.proofs.Spaces.{count_written}
use Rattle.gc_copy.proofs.OpenCollection.{raw_present, Brought, copied_words}
use Rattle.gc_copy.proofs.collection.Collection.copy_field.Goals as goal

pub set_field-requires : goal.set_field-requires
set_field-requires c = grind (arith, common_steps, raw_present, read_in_heap)

done : (c : goal.After-set_field) → Brought c.args.heap.now c.args.heap.now c.args.self.now (record (the_view c.self.inside) { space = c.set_field.new.self }) c.args.original.0 c.args.field
done c =
    let x : CollectionWords = the_view c.self.inside in
    copied_words c.args.heap.now c.args.self.now x c.args.original.0 c.args.field c.field-word.result c.args.replica.0 c.space.ensures.sound c.requires.raw c.self.invariant.0 c.self.view_is
    c.requires.belongs (read_in_heap c.args.heap.now _ _ _ _ c.space.ensures.value c.field-word.ensures) c.requires.replica
    (record x { space = c.set_field.new.self }) (ap (λ (s : SpaceWords). record x { space = s }) c.set_field.ensures.words)

pub invariant_of-self : goal.invariant_of-self
invariant_of-self c = ((done c).sound, count_written c.self.inside.replicas (blocks c.self.inside.space.words) (blocks c.set_field.new.self.words) _ _ _ c.self.invariant.1 c.set_field.ensures.objects)

pub returns-clause-brought : goal.returns-clause-brought
returns-clause-brought c = (done c).brought

pub returns-clause-belongs : goal.returns-clause-belongs
returns-clause-belongs c = (done c).belongs

pub returns-clause-rest : goal.returns-clause-rest
returns-clause-rest c = (done c).rest
