-- The ones in the place of twos take each two to a one, and no other code changes.
use Rattle.std.proofs.lemmas.Grind.{common_steps}
use Rattle.std.proofs.lemmas.Nat.{and_le_r}
use Rattle.std.proofs.Common.{arith, bit_and, bit_xor}
use Rattle.gc_monitor.proofs.Digits.{freed_codes}
use Rattle.gc_monitor.proofs.code_row.freed.Goals as goal

pub overflow_mul-result : goal.overflow_mul-result
overflow_mul-result c = grind (arith, common_steps, and_le_r, bit_and, bit_xor)

pub returns : goal.returns
returns c = λ k within. freed_codes c.args.word k within
