-- The link is written before the end.
use Rattle.std.proofs.Common.{subst, arith}
use Rattle.gc_words.specs.Space.{IsSpace}
use Rattle.gc_words.specs.Layout.{link_place}
use Rattle.gc_concurrent.proofs.PlainWords.{link_put, word_seen}
use Rattle.gc_concurrent.proofs.Writing.{link_within}
use Rattle.gc_concurrent.proofs.next.NextSpace.set_link.Goals as goal

pub index_mut-requires : goal.index_mut-requires
index_mut-requires c =
    let within = link_within c.args.self.now c.args.at.0 (subst IsSpace c.self.view_is c.self.invariant.space) c.requires in
    omega (arith, c.self.inside.words.ok.0, (word_seen _ _ c.args.self.now (link_place c.args.at.0) c.self.view_is c.self.invariant.within within).inside)

pub invariant_of-self : goal.invariant_of-self
invariant_of-self c = (link_put _ _ _ _ c.args.at.0 c.args.word c.self.view_is c.self.invariant c.requires).plain

pub returns-clause-words : goal.returns-clause-words
returns-clause-words c = (link_put _ _ _ _ c.args.at.0 c.args.word c.self.view_is c.self.invariant c.requires).is

pub returns-clause-shaped : goal.returns-clause-shaped
returns-clause-shaped c = (link_put _ _ _ _ c.args.at.0 c.args.word c.self.view_is c.self.invariant c.requires).plain.space
