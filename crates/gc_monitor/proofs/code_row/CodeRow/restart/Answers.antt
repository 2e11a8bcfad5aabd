-- A row that starts anew is one word of zeros, which is place 0.
use Rattle.gc_monitor.proofs.Packed.{one_code, has_one}
use Rattle.std.proofs.lemmas.Grind.{common_steps}
use Rattle.std.proofs.Common.{arith}
use Rattle.gc_monitor.proofs.code_row.CodeRow.restart.Goals as goal

pub invariant_of-self : goal.invariant_of-self
invariant_of-self c = grind (arith, common_steps, has_one)

pub returns-clause-codes : goal.returns-clause-codes
returns-clause-codes c = grind (arith, common_steps, one_code)
