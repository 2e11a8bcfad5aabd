-- A handle may go to another thread: its end may, and any thread may free the box.
use Rattle.std.proofs.lemmas.Grind.{common_steps}
use Rattle.std.proofs.Common.{Option, Some, None, arith}
use mir.Raw.{raw}
use base.Shift.{Keyless}
use denote.Memory.{lone}
use denote.RawPtr.{Ptr}
use denote.Param.Send.{IsSend}
use Rattle.std.specs.declared.alloc.Global.{Global}
use Rattle.std.proofs.Crossing.{frees}
use Rattle.std_alloc.proofs.SendSync.{quiet, lies}
use Rattle.gcflip_beside_c.specs.Handle.{owns_end}
use Rattle.gcflip_beside_c.specs.declared.end.End.{End}
use Rattle.gcflip_beside_c.specs.contracts.end.End as Row
use Rattle.gcflip_beside_c.proofs.end.End.TheSendSync.{the_send as end_send}
use Rattle.gcflip_beside_c.specs.contracts.handle.GcflipEnd.{the_row}

keyless : (alloc : Global) (at : Ptr) (end : Option End) → Keyless (owns_end alloc at end)
keyless alloc at None = tt
keyless alloc at (Some end) = (lies Row.the_row end_send at end, frees.frees alloc (raw (lone Row.the_row.mir)) at)

pub send : IsSend the_row
send = grind (arith, common_steps, keyless, quiet)
