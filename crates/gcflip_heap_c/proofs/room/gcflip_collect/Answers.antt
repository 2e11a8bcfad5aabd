-- What whole collections made of the heap, and the handle holds it.
use Rattle.std.proofs.Common.{◌≡◌, Some, subst}
use Rattle.gc_collected.specs.Collected.{Collected}
use Rattle.gcflip_heap_c.specs.Room.{CollectsAnew}
use Rattle.gcflip_heap_c.specs.declared.handle.GcflipHeap.{GcflipHeap}
use Rattle.gcflip_heap_c.proofs.Calls.{anew_unrefused, heap_made}
use Rattle.gcflip_heap_c.proofs.room.gcflip_collect.Goals as goal

pub returns-clause-call : goal.returns-clause-call
returns-clause-call c =
    let before : Collected = c.heap_mut-heap.result.now in
    heap_made (Unit {0}) (λ h n. CollectsAnew h n c.collect_anew-made.result.report c.collect_anew-made.result.answer)
    c.args.heap.now before c.collect_anew-made.new.heap c.collect_anew-made.result.answer tt
    (subst (λ (h : GcflipHeap). (h.state ≡ Some before.core) × (h.beside ≡ before.beside) × (h.roots_left ≡ before.roots_left)) c.is_empty.ensures.1 c.heap_mut-heap.ensures.value)
    c.collect_anew-made.ensures (anew_unrefused before c.collect_anew-made.new.heap c.collect_anew-made.result.report c.collect_anew-made.result.answer c.collect_anew-made.ensures)
