-- Only code 2 stands for 2.
use Rattle.std.proofs.lemmas.Grind.{common_steps}
use Rattle.std.proofs.Common.{arith}
use Rattle.gc_monitor.proofs.Freed.{itself, now_at, length-now}
use Rattle.gc_monitor.proofs.old_row.OldRow.may_be_taken.Goals as goal

pub get-requires : goal.get-requires
get-requires c = grind (arith, common_steps, length-now)

pub returns : goal.returns
returns c = grind (arith, common_steps, itself, now_at)
