-- The count of due places goes up or down with the mark, and a place that is due is among those counted.
use Rattle.std.proofs.lemmas.Grind.{common_steps}
use Rattle.std.proofs.Common.{arith}
use Rattle.gc_monitor.proofs.RowsAgree.{agree_of, agree_due, some_missing, set_count, few_due}
use Rattle.gc_monitor.proofs.monitor.Monitor.set_due.Goals as goal

pub recounted-self-inside-requires-clause-few : goal.recounted-self-inside-requires-clause-few
recounted-self-inside-requires-clause-few c = grind (arith, common_steps, agree_of, few_due)

pub recounted-self-inside-requires-clause-some : goal.recounted-self-inside-requires-clause-some
recounted-self-inside-requires-clause-some c = grind (arith, common_steps, some_missing, agree_of)

pub invariant_of-self : goal.invariant_of-self
invariant_of-self c = grind (arith, common_steps, agree_of, agree_due, set_count)

pub returns : goal.returns
returns c = grind (arith, common_steps, agree_of, set_count)
