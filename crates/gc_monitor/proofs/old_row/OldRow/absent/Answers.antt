-- A row without places has no codes.
use Rattle.std.proofs.lemmas.Grind.{common_steps}
use Rattle.std.proofs.Common.{arith}
use Rattle.gc_monitor.proofs.Freed.{now_first}
use Rattle.gc_monitor.proofs.old_row.OldRow.absent.Goals as goal

pub returns : goal.returns
returns c = grind (arith, common_steps, now_first)
