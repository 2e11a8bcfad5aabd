-- A word of zeros is the row of place 0.
use Rattle.gc_monitor.proofs.Packed.{one_code, has_one}
use Rattle.std.proofs.lemmas.Grind.{common_steps}
use Rattle.std.proofs.Common.{arith}
use Rattle.gc_monitor.proofs.code_row.CodeRow.new.Goals as goal

pub invariant_of-result : goal.invariant_of-result
invariant_of-result c = grind (arith, common_steps, has_one)

pub returns : goal.returns
returns c = grind (arith, common_steps, one_code)
