-- The difference with a code at a place without one has the code there, and no other code changes.
use Rattle.std.proofs.lemmas.Grind.{common_steps}
use Rattle.std.proofs.Common.{arith}
use Rattle.gc_monitor.proofs.Digits.{with_first, with_first_here, with_first_beside}
use Rattle.gc_monitor.proofs.code_row.with_first.Goals as goal

pub returns : goal.returns
returns c = grind (arith, common_steps, with_first, with_first_here, with_first_beside)
