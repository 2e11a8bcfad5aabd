-- The first word of an object lies before the end, and is the word of its header.
use Rattle.std.proofs.Common.{refl, sym, ◌∙◌, ap, subst, arith}
use Rattle.std.specs.Prelude.{IsSome}
use Rattle.gc_words.specs.Word.{read_header}
use Rattle.gc_words.specs.Space.{IsSpace}
use Rattle.gc_words.proofs.Public.{header_read}
use Rattle.gc_concurrent.proofs.PlainWords.{word_seen}
use Rattle.gc_concurrent.proofs.next.NextSpace.header.Goals as goal

pub index-requires : goal.index-requires
index-requires c =
    let r = header_read c.args.self.now.words c.args.at.0 (subst IsSpace c.self.view_is c.self.invariant.space).walked c.requires in
    omega (arith, c.self.inside.words.ok.0, (word_seen _ _ c.args.self.now c.args.at.0 c.self.view_is c.self.invariant.within (omega (arith, r.within))).inside)

pub of_word-requires : goal.of_word-requires
of_word-requires c =
    let r = header_read c.args.self.now.words c.args.at.0 (subst IsSpace c.self.view_is c.self.invariant.space).walked c.requires in
    let w = word_seen _ _ c.args.self.now c.args.at.0 c.self.view_is c.self.invariant.within (omega (arith, r.within)) in
    subst IsSome (sym (ap read_header (w.word _ c.index.ensures) ∙ r.word)) refl

pub returns : goal.returns
returns c =
    let r = header_read c.args.self.now.words c.args.at.0 (subst IsSpace c.self.view_is c.self.invariant.space).walked c.requires in
    let w = word_seen _ _ c.args.self.now c.args.at.0 c.self.view_is c.self.invariant.within (omega (arith, r.within)) in
    r.found ∙ sym r.word ∙ sym (ap read_header (w.word _ c.index.ensures)) ∙ c.of_word.ensures
