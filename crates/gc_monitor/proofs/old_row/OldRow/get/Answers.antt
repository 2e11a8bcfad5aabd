-- A code 2 whose block does not count stands for 1, and any other for itself.
use Rattle.std.proofs.lemmas.Grind.{common_steps}
use Rattle.std.proofs.Common.{arith}
use Rattle.gc_monitor.proofs.Freed.{itself, counts, now_at, length-now}
use Rattle.gc_monitor.proofs.old_row.OldRow.get.Goals as goal

pub get-code-requires : goal.get-code-requires
get-code-requires c = grind (arith, common_steps, length-now)

pub returns-then-code-ne-TAKEN : goal.returns-then-code-ne-TAKEN
returns-then-code-ne-TAKEN c = grind (arith, common_steps, itself, now_at)

pub returns-then-epoch_of-self : goal.returns-then-epoch_of-self
returns-then-epoch_of-self c = grind (arith, common_steps, counts, now_at)

pub returns-else-epoch_of-self : goal.returns-else-epoch_of-self
returns-else-epoch_of-self c = grind (arith, common_steps, now_at)
