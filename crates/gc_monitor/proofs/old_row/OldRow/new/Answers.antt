-- A row of place 0 has no epochs, so its code stands for itself.
use Rattle.std.proofs.lemmas.Grind.{common_steps}
use Rattle.std.proofs.Common.{arith}
use Rattle.gc_monitor.proofs.Freed.{now_first}
use Rattle.gc_monitor.proofs.old_row.OldRow.new.Goals as goal

pub returns-clause-codes : goal.returns-clause-codes
returns-clause-codes c = grind (arith, common_steps, now_first)
