-- The difference of both codes takes the one to the other, and no other code changes.
use Rattle.std.proofs.lemmas.Grind.{common_steps}
use Rattle.std.proofs.Common.{arith}
use Rattle.gc_monitor.proofs.Digits.{with_code, with_code_here, with_first_beside, xor_few}
use Rattle.gc_monitor.proofs.code_row.with_code.Goals as goal

pub returns : goal.returns
returns c = grind (arith, common_steps, with_code, with_code_here, with_first_beside, xor_few)
