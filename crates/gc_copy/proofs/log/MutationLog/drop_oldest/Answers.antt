-- The oldest entry goes from a segment that keeps others, or with the whole segment if it was the last one there.
use Rattle.std.proofs.lemmas.Grind.{common_steps}
use Rattle.std.proofs.Common.{drop, ap, ◌∙◌, arith}
use Rattle.std.proofs.lemmas.Bool.{eqb-true}
use Rattle.gc_copy.specs.Words.{Log}
use Rattle.gc_copy.proofs.Segments.{none_left, dropped_here, dropped_all, dropped_first}
use Rattle.gc_copy.proofs.log.MutationLog.drop_oldest.Goals as goal

pub returns-then-is_empty : goal.returns-then-is_empty
returns-then-is_empty c = grind (arith, common_steps, none_left, eqb-true)

pub returns-then-self-len : goal.returns-then-self-len
returns-then-self-len c = grind (arith, common_steps, dropped_all)

pub returns-else-self-len : goal.returns-else-self-len
returns-else-self-len c = grind (arith, common_steps, dropped_here)

pub returns-then-self-eq-SEGMENT : goal.returns-then-self-eq-SEGMENT
returns-then-self-eq-SEGMENT c =
    let l = c.self.inside in
    dropped_first _ l.full l.last l.gone c.self.invariant c.drop_first.new.segments.items c.drop_first.ensures.joined (omega arith) c.if-self-eq-SEGMENT.true
    ∙ ap (λ (log : Log). drop 1 log.entries) c.self.view_is

pub returns-else-self-eq-SEGMENT : goal.returns-else-self-eq-SEGMENT
returns-else-self-eq-SEGMENT c = grind (arith, common_steps, dropped_here)
