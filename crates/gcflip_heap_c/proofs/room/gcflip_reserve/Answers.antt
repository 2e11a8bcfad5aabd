-- The call made of its heap what it returns, and the handle holds that heap.
use Rattle.std.proofs.Common.{◌≡◌, Some, subst}
use Rattle.gc_collected.specs.Collected.{Collected}
use Rattle.gc_pace.specs.Pace.{IsPace}
use Rattle.gcflip_heap_c.specs.Room.{Reserves, TellsRoom}
use Rattle.gcflip_heap_c.specs.declared.handle.GcflipHeap.{GcflipHeap}
use Rattle.gcflip_heap_c.proofs.Calls.{heap_made, tells_unrefused}
use Rattle.gcflip_heap_c.proofs.room.gcflip_reserve.Goals as goal

pub returns-clause-call : goal.returns-clause-call
returns-clause-call c =
    let before : Collected = c.heap_mut-heap.result.now in
    heap_made (IsPace c.args.pace.now) (λ h n. TellsRoom c.args.words n.core.heap.free c.reserve.result × Reserves c.args.words c.args.pace.now c.reserve.new.pace h n c.reserve.new.work c.reserve.result)
    c.args.heap.now before c.reserve.new.heap c.reserve.result (c.is_fit.ensures.0 c.if-not-is_fit.false)
    (subst (λ (h : GcflipHeap). (h.state ≡ Some before.core) × (h.beside ≡ before.beside) × (h.roots_left ≡ before.roots_left)) c.is_empty.ensures.1 c.heap_mut-heap.ensures.value)
    (c.reserve.ensures.tells, c.reserve.ensures.reserves) (tells_unrefused c.args.words c.reserve.new.heap.core.heap.free c.reserve.result c.reserve.ensures.tells)
