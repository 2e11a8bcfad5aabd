-- The second word of an object lies before the end, and is its link.
use Rattle.std.proofs.Common.{subst, arith}
use Rattle.gc_words.specs.Space.{IsSpace}
use Rattle.gc_words.specs.Layout.{link_place}
use Rattle.gc_concurrent.proofs.PlainWords.{word_seen}
use Rattle.gc_concurrent.proofs.Writing.{link_within}
use Rattle.gc_concurrent.proofs.next.NextSpace.link.Goals as goal

pub index-requires : goal.index-requires
index-requires c =
    let within = link_within c.args.self.now c.args.at.0 (subst IsSpace c.self.view_is c.self.invariant.space) c.requires in
    omega (arith, c.self.inside.words.ok.0, (word_seen _ _ c.args.self.now (link_place c.args.at.0) c.self.view_is c.self.invariant.within within).inside)

pub returns : goal.returns
returns c =
    let within = link_within c.args.self.now c.args.at.0 (subst IsSpace c.self.view_is c.self.invariant.space) c.requires in
    (word_seen _ _ c.args.self.now (link_place c.args.at.0) c.self.view_is c.self.invariant.within within).word _ c.index.ensures
