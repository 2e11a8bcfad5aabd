-- A start and its fields stand for themselves.
use Rattle.std.proofs.lemmas.Grind.{common_steps}
use Rattle.std.proofs.Common.{arith}
use Rattle.gc_monitor.proofs.Freed.{now_added, length-now}
use Rattle.gc_monitor.proofs.old_row.OldRow.add.Goals as goal

pub add-requires-clause-room : goal.add-requires-clause-room
add-requires-clause-room c = grind (arith, common_steps, length-now)

pub returns-clause-codes : goal.returns-clause-codes
returns-clause-codes c = grind (arith, common_steps, now_added)
