-- A caller sees as many places as the row counts.
use Rattle.std.proofs.Common.{sym}
use Rattle.gc_monitor.proofs.Packed.{seen_length}
use Rattle.gc_monitor.proofs.code_row.CodeRow.len.Goals as goal

pub returns : goal.returns
returns c = sym (seen_length _ _ _ _ c.self.view_is)
