-- The link lies within the words, and the write changes no object, so the space stays shaped.
use Rattle.std.proofs.Common.{length, ap, arith}
use Rattle.gc_words.specs.Space.{SpaceWords}
use Rattle.gc_words.proofs.Writes.{HeaderRead}
use Rattle.gc_words.proofs.Bodies.{header_seen, link_at_place}
use Rattle.gc_words.proofs.space.Space.set_link.Goals as goal

pub index_mut-requires : goal.index_mut-requires
index_mut-requires c =
    let r : HeaderRead c.args.self.now.words c.args.at.0 = header_seen _ _ c.args.at.0 c.self.view_is c.self.invariant.0 c.requires in
    omega (arith, c.self.inside.words.ok.0, ap (λ (s : SpaceWords). length s.words) c.self.view_is, r.within, c.link_index.ensures)

pub invariant_of-self : goal.invariant_of-self
invariant_of-self c = ((link_at_place _ _ c.args.at.0 c.args.word c.link_index.result c.self.view_is c.link_index.ensures c.self.invariant.0 c.requires).0, c.self.invariant.1)

pub returns-clause-objects : goal.returns-clause-objects
returns-clause-objects c = (link_at_place _ _ c.args.at.0 c.args.word c.link_index.result c.self.view_is c.link_index.ensures c.self.invariant.0 c.requires).1

pub returns-clause-shaped : goal.returns-clause-shaped
returns-clause-shaped c = (link_at_place _ _ c.args.at.0 c.args.word c.link_index.result c.self.view_is c.link_index.ensures c.self.invariant.0 c.requires).0
