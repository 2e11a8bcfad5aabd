-- The second word of an object lies within the words, and is its link.
use Rattle.std.proofs.Common.{length, ◌∙◌, ap, arith}
use Rattle.std.specs.Prelude.{slice_index}
use Rattle.gc_words.specs.Space.{SpaceWords}
use Rattle.gc_words.proofs.Writes.{HeaderRead}
use Rattle.gc_words.proofs.Bodies.{header_seen, word_seen}
use Rattle.gc_words.proofs.space.Space.link.Goals as goal

pub index-requires : goal.index-requires
index-requires c =
    let r : HeaderRead c.args.self.now.words c.args.at.0 = header_seen _ _ c.args.at.0 c.self.view_is c.self.invariant.0 c.requires in
    omega (arith, c.self.inside.words.ok.0, ap (λ (s : SpaceWords). length s.words) c.self.view_is, r.within, c.link_index.ensures)

pub returns : goal.returns
returns c =
    let r : HeaderRead c.args.self.now.words c.args.at.0 = header_seen _ _ c.args.at.0 c.self.view_is c.self.invariant.0 c.requires in
    word_seen _ _ c.link_index.result _ c.self.view_is (omega (arith, r.within, c.link_index.ensures)) c.index.ensures
    ∙ ap (slice_index c.args.self.now.words) c.link_index.ensures
