-- The field that the object has lies within the words, and is the word that is read.
use Rattle.std.proofs.Common.{length, Some, sym, ◌∙◌, ap, arith}
use Rattle.std.specs.Prelude.{slice_index}
use Rattle.gc_words.specs.Space.{SpaceWords}
use Rattle.gc_words.proofs.Writes.{FieldRead}
use Rattle.gc_words.proofs.Bodies.{field_seen, word_seen}
use Rattle.gc_words.proofs.space.Space.field.Goals as goal

pub index-requires : goal.index-requires
index-requires c =
    let f : FieldRead c.args.self.now.words c.args.at.0 c.args.i = field_seen _ _ c.args.at.0 c.args.i c.self.view_is c.self.invariant.0 c.requires in
    omega (arith, c.self.inside.words.ok.0, ap (λ (s : SpaceWords). length s.words) c.self.view_is, f.within, c.field_index.ensures)

pub returns : goal.returns
returns c =
    let f : FieldRead c.args.self.now.words c.args.at.0 c.args.i = field_seen _ _ c.args.at.0 c.args.i c.self.view_is c.self.invariant.0 c.requires in
    f.word ∙ ap (λ p. Some (slice_index c.args.self.now.words p)) (sym c.field_index.ensures)
    ∙ ap Some (sym (word_seen _ _ c.field_index.result _ c.self.view_is (omega (arith, f.within, c.field_index.ensures)) c.index.ensures))
