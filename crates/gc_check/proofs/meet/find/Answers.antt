-- Nothing is found at first, then the roots meet, and then the objects of the pairs.
use Rattle.gc_check.proofs.Meetings.{taken_none}
use Rattle.gc_check.proofs.StartMarks.{nothing_at}
use Rattle.std.proofs.lemmas.Bool.{ne_eqb}
use Rattle.std.proofs.lemmas.Grind.{common_steps}
use Rattle.std.proofs.Common.{rules, sym, subst, arith}
use Rattle.gc_check.specs.Internal.Meetings.{MetTo}
use Rattle.gc_check.proofs.Forced.{roots_met}
use Rattle.gc_check.proofs.meet.find.Goals as goal

pub meet_all-roots-requires-clause-held : goal.meet_all-roots-requires-clause-held
meet_all-roots-requires-clause-held c = grind (arith, common_steps, ne_eqb, nothing_at, taken_none)

pub meet_reachable-alike-requires-clause-met : goal.meet_reachable-alike-requires-clause-met
meet_reachable-alike-requires-clause-met c = subst (λ pairs. MetTo c.args.old.now c.args.new.now pairs 0) (sym (search rules)) (roots_met c.args.old.now c.args.new.now)

pub meet_reachable-alike-requires-clause-roots : goal.meet_reachable-alike-requires-clause-roots
meet_reachable-alike-requires-clause-roots c = λ alike. grind (arith, common_steps)
