-- All extra roots were looked at, the slots are alike, and the rest are nil in both.
use Rattle.std.proofs.Common.{arith}
use Rattle.std.proofs.lemmas.Bool.{eqb-true}
use Rattle.gc_monitor.specs.Origins.{pairs_in}
use Rattle.gc_roots.proofs.Compared.{all_correspond}
use Rattle.gc_roots.proofs.root_looks.RootLooks.says_yes.Goals as goal

pub returns-clause-yes : goal.returns-clause-yes
returns-clause-yes c t looked = record {
  seen = c.has_seen_all.ensures.exact.0 c.if-not-has_seen_all.false;
  roots = all_correspond (pairs_in c.args.standing.now.origins) c.args.slots c.args.old.nils c.args.new.nils c.args.old.roots.now c.args.new.roots.now c.args.self.now c.if-old-new.false c.if-old-new-2.false c.if-old-slots.false looked
      (c.knows.ensures.0 c.if-not-knows.false) (λ p less. c.alike_until.ensures.alike p (omega arith) (omega (arith, less, eqb-true c.alike_until.result c.args.slots t)));
}
