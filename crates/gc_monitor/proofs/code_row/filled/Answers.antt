-- A run of threes in the word makes the codes there 3, and no other code changes.
use Rattle.std.proofs.lemmas.Grind.{common_steps}
use Rattle.std.proofs.Common.{arith}
use Rattle.gc_monitor.proofs.Digits.{filled_inside, filled_outside}
use Rattle.gc_monitor.proofs.code_row.filled.Goals as goal

pub returns : goal.returns
returns c = grind (arith, common_steps, filled_inside, filled_outside)
