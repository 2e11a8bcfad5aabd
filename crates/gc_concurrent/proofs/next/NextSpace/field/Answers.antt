-- The field that the object has lies before the end, and is the word that is read.
use Rattle.std.proofs.Common.{Some, sym, ◌∙◌, ap, subst, arith}
use Rattle.std.specs.Prelude.{slice_index}
use Rattle.gc_words.specs.Space.{IsSpace}
use Rattle.gc_words.proofs.Public.{field_read}
use Rattle.gc_concurrent.proofs.PlainWords.{word_seen}
use Rattle.gc_concurrent.proofs.next.NextSpace.field.Goals as goal

pub index-requires : goal.index-requires
index-requires c =
    let f = field_read c.args.self.now.words c.args.at.0 c.args.i (subst IsSpace c.self.view_is c.self.invariant.space).walked c.requires in
    omega (arith, c.self.inside.words.ok.0, (word_seen _ _ c.args.self.now c.field_index.result c.self.view_is c.self.invariant.within (omega (arith, f.within, c.field_index.ensures))).inside)

pub returns : goal.returns
returns c =
    let f = field_read c.args.self.now.words c.args.at.0 c.args.i (subst IsSpace c.self.view_is c.self.invariant.space).walked c.requires in
    let w = word_seen _ _ c.args.self.now c.field_index.result c.self.view_is c.self.invariant.within (omega (arith, f.within, c.field_index.ensures)) in
    f.word ∙ ap (λ p. Some (slice_index c.args.self.now.words p)) (sym c.field_index.ensures) ∙ ap Some (sym (w.word _ c.index.ensures))
