-- The entry becomes the last one: in the segment in use or, if that is full, in the next one, which has room.
use Rattle.std.proofs.lemmas.Grind.{common_steps}
use Rattle.std.proofs.Common.{◌+◌, length, ap, sym, ◌∙◌, subst, arith}
use Rattle.std.proofs.lemmas.List.{length-set}
use Rattle.gc_copy.specs.Words.{Log}
use Rattle.gc_copy.specs.Internal.Segments.{IsLog}
use Rattle.gc_copy.proofs.Segments.{noted_here, noted_next, log_next, next_room, left_in}
use Rattle.gc_copy.proofs.log.MutationLog.note.Goals as goal

pub push_reserved-requires-else-len-capacity : goal.push_reserved-requires-else-len-capacity
push_reserved-requires-else-len-capacity c =
    let l = c.self.inside in
    omega (arith, l.last.ok, next_room _ l.full l.last l.gone c.self.invariant c.change_last.new.last c.change_last.ensures.last (omega arith))

pub invariant_of-self-else-len-capacity : goal.invariant_of-self-else-len-capacity
invariant_of-self-else-len-capacity c =
    let l = c.self.inside in
    let p = c.push_reserved-else-len-capacity in
    subst (λ ss. IsLog ss (l.full + 1) p.new.self l.gone) (sym c.change_last.ensures.segments)
    (log_next _ l.full l.last l.gone c.self.invariant c.change_last.new.last c.change_last.ensures.last (omega arith) p.new.self c.args.entry p.ensures.items p.ensures.len p.ensures.capacity)

pub returns-then-len-capacity-clause-entries : goal.returns-then-len-capacity-clause-entries
returns-then-len-capacity-clause-entries c = grind (arith, common_steps, noted_here)

pub returns-else-len-capacity-clause-entries : goal.returns-else-len-capacity-clause-entries
returns-else-len-capacity-clause-entries c = grind (arith, common_steps, left_in, noted_next)

pub returns-else-len-capacity-clause-room : goal.returns-else-len-capacity-clause-room
returns-else-len-capacity-clause-room c =
    let l = c.self.inside in
    omega (arith, l.last.ok, c.push_reserved-else-len-capacity, next_room _ l.full l.last l.gone c.self.invariant c.change_last.new.last c.change_last.ensures.last (omega arith), ap (λ (log : Log). log.spare) c.self.view_is, ap length c.change_last.ensures.segments ∙ length-set l.segments.items l.full l.last)
