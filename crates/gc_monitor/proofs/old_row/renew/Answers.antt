-- The codes of the block are freed, since they did not count, and count from now on.
use Rattle.std.proofs.lemmas.Grind.{common_steps}
use Rattle.std.proofs.Common.{arith, get_or-set_same, get_or-set_other}
use Rattle.gc_monitor.proofs.Freed.{renewed}
use Rattle.gc_monitor.proofs.old_row.renew.Goals as goal

pub returns-clause-codes : goal.returns-clause-codes
returns-clause-codes c = grind (arith, common_steps, renewed, get_or-set_same, get_or-set_other)
