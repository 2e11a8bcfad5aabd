-- In the next epoch, each code 2 stands for 1.
use Rattle.std.proofs.lemmas.Grind.{common_steps}
use Rattle.std.proofs.Common.{arith}
use Rattle.gc_monitor.proofs.Freed.{length-now, now_at}
use Rattle.gc_monitor.proofs.old_row.OldRow.release.Goals as goal

pub returns-clause-len : goal.returns-clause-len
returns-clause-len c = grind (arith, common_steps, length-now)

pub returns-clause-codes : goal.returns-clause-codes
returns-clause-codes c = λ a. grind (arith, common_steps, now_at)
