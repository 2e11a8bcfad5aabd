-- The first word of an object lies within the words, and is the word of its header.
use Rattle.std.proofs.Common.{length, refl, sym, ◌∙◌, ap, subst, arith}
use Rattle.std.specs.Prelude.{IsSome}
use Rattle.gc_words.specs.Word.{read_header}
use Rattle.gc_words.specs.Space.{SpaceWords}
use Rattle.gc_words.proofs.Writes.{HeaderRead}
use Rattle.gc_words.proofs.Bodies.{header_seen, word_seen}
use Rattle.gc_words.proofs.space.Space.header.Goals as goal

pub index-requires : goal.index-requires
index-requires c =
    let r : HeaderRead c.args.self.now.words c.args.at.0 = header_seen _ _ c.args.at.0 c.self.view_is c.self.invariant.0 c.requires in
    omega (arith, c.self.inside.words.ok.0, ap (λ (s : SpaceWords). length s.words) c.self.view_is, r.within)

pub of_word-requires : goal.of_word-requires
of_word-requires c =
    let r : HeaderRead c.args.self.now.words c.args.at.0 = header_seen _ _ c.args.at.0 c.self.view_is c.self.invariant.0 c.requires in
    subst IsSome (sym (ap read_header (word_seen _ _ c.args.at.0 _ c.self.view_is (omega (arith, r.within)) c.index.ensures) ∙ r.word)) refl

pub returns : goal.returns
returns c =
    let r : HeaderRead c.args.self.now.words c.args.at.0 = header_seen _ _ c.args.at.0 c.self.view_is c.self.invariant.0 c.requires in
    r.found ∙ sym r.word ∙ sym (ap read_header (word_seen _ _ c.args.at.0 _ c.self.view_is (omega (arith, r.within)) c.index.ensures)) ∙ c.of_word.ensures
