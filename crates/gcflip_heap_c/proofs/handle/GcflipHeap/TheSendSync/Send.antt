-- A handle may go to another thread: its heap may, and any thread may free the box.
use Rattle.std.proofs.lemmas.Grind.{common_steps}
use Rattle.std.proofs.Common.{ℕ, Option, Some, None, arith}
use mir.Raw.{raw}
use base.Shift.{Keyless}
use denote.Memory.{lone}
use denote.RawPtr.{Ptr}
use denote.Param.Send.{IsSend}
use Rattle.std.specs.declared.alloc.Global.{Global}
use Rattle.std.proofs.Crossing.{frees}
use Rattle.std_alloc.proofs.SendSync.{quiet, lies}
use Rattle.gcflip_heap_c.specs.Handle.{owns_heap}
use Rattle.gc_model.specs.State.{State}
use Rattle.gc_collected.specs.Collected.{Beside}
use Rattle.gc_collected.specs.contracts.collected_heap.CollectedHeap as Row
use Rattle.gc_collected.proofs.collected_heap.CollectedHeap.TheSendSync.{the_send as heap_send}
use Rattle.gcflip_heap_c.specs.contracts.handle.GcflipHeap.{the_row}

keyless : (alloc : Global) (at : Ptr) (state : Option State) (beside : Beside) (left : ℕ) → Keyless (owns_heap alloc at state beside left)
keyless alloc at None beside left = tt
keyless alloc at (Some state) beside left = (lies Row.the_row heap_send at (record { core = state; beside = beside; roots_left = left }), frees.frees alloc (raw (lone Row.the_row.mir)) at)

pub send : IsSend the_row
send = grind (arith, common_steps, keyless, quiet)
