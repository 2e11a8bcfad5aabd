-- The field lies within the words, and the write changes this field of this object, so the space stays shaped.
use Rattle.std.proofs.Common.{length, ap, arith}
use Rattle.gc_words.specs.Space.{SpaceWords}
use Rattle.gc_words.proofs.Writes.{FieldRead}
use Rattle.gc_words.proofs.Bodies.{field_seen, field_at_place}
use Rattle.gc_words.proofs.space.Space.set_field.Goals as goal

pub index_mut-requires : goal.index_mut-requires
index_mut-requires c =
    let f : FieldRead c.args.self.now.words c.args.at.0 c.args.i = field_seen _ _ c.args.at.0 c.args.i c.self.view_is c.self.invariant.0 c.requires in
    omega (arith, c.self.inside.words.ok.0, ap (λ (s : SpaceWords). length s.words) c.self.view_is, f.within, c.field_index.ensures)

pub invariant_of-self : goal.invariant_of-self
invariant_of-self c = ((field_at_place _ _ c.args.at.0 c.args.i c.args.word c.field_index.result c.self.view_is c.field_index.ensures c.self.invariant.0 c.requires).0, c.self.invariant.1)

pub returns-clause-objects : goal.returns-clause-objects
returns-clause-objects c = (field_at_place _ _ c.args.at.0 c.args.i c.args.word c.field_index.result c.self.view_is c.field_index.ensures c.self.invariant.0 c.requires).1

pub returns-clause-shaped : goal.returns-clause-shaped
returns-clause-shaped c = (field_at_place _ _ c.args.at.0 c.args.i c.args.word c.field_index.result c.self.view_is c.field_index.ensures c.self.invariant.0 c.requires).0
