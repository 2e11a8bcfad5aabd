-- The call's counts and due steps are those of the heap, so what it performs is paced work.
use Rattle.std.proofs.Common.{ap}
use Rattle.gc_collected.specs.Collected.{Collected}
use Rattle.gc_pace.proofs.PacedCalls.{paced_call}
use Rattle.gc_pace.proofs.paced.work_at_pace.Goals as goal

pub returns-clause-work : goal.returns-clause-work
returns-clause-work c =
    paced_call c.args.wanted c.steps_due-due.result c.args.heap.now c.work_due.new.heap c.args.pace.now c.remember_work.new.self c.in_ok-work.work
    c.of.result c.of-2.result c.steps_due-due.ensures.due c.steps_due-due.ensures.paid c.in_ok-work.ensures.beside.looks
    (λ zero. let same = c.in_ok-work.ensures.none zero in (ap (λ (heap : Collected). heap.core) same.0, same.1)) c.in_ok-work.ensures.some c.in_ok-work.ensures.within c.remember_work.ensures c.of.ensures c.of-2.ensures
    c.is_sound.ensures.heap c.is_sound.ensures.open
