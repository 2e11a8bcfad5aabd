-- The block of the place counts, so its code 2 stands for itself.
use Rattle.std.proofs.lemmas.Grind.{common_steps}
use Rattle.std.proofs.Common.{arith}
use Rattle.gc_monitor.proofs.Freed.{length-now, now_set}
use Rattle.gc_monitor.proofs.old_row.OldRow.take.Goals as goal

pub replace-requires-clause-within : goal.replace-requires-clause-within
replace-requires-clause-within c = grind (arith, common_steps, length-now)

pub returns-clause-codes : goal.returns-clause-codes
returns-clause-codes c = grind (arith, common_steps, now_set)
