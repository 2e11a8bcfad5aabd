-- The call performs what its heap performed, and the handle holds that heap.
use Rattle.std.proofs.Common.{◌≡◌, Some, None, subst}
use Rattle.gc_collected.specs.Collected.{Collected}
use Rattle.gc_pace.specs.Pace.{IsPace, IsPacedWork}
use Rattle.gcflip_heap_c.specs.declared.handle.GcflipHeap.{GcflipHeap}
use Rattle.gcflip_heap_c.proofs.Calls.{work_made}
use Rattle.gcflip_heap_c.proofs.pace.gcflip_heap_work_paced.Goals as goal

pub returns-clause-call : goal.returns-clause-call
returns-clause-call c =
    let before : Collected = c.heap_mut-heap.result.now in
    work_made (IsPace c.args.pace.now) None (λ old new. IsPacedWork c.args.wanted old new c.args.pace.now c.work_at_pace.new.pace) c.args.heap.now before c.work_at_pace.new.heap c.work_at_pace.result c.of_work.new.told c.args.work.now c.of_work.result
    (c.is_fit.ensures.0 c.if-not-is_fit.false) (subst (λ (h : GcflipHeap). (h.state ≡ Some before.core) × (h.beside ≡ before.beside) × (h.roots_left ≡ before.roots_left)) c.is_empty.ensures.1 c.heap_mut-heap.ensures.value) c.work_at_pace.ensures.work c.work_at_pace.ensures.beside c.work_at_pace.ensures.refused c.of_work.ensures.done c.of_work.ensures.refused
