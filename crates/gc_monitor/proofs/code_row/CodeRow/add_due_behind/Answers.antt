-- The fields of an object that is added become due.
use Rattle.std.proofs.lemmas.List.{length-replicate}
use Rattle.gc_monitor.proofs.Packed.{fields_filled}
use Rattle.std.proofs.lemmas.Grind.{common_steps}
use Rattle.std.proofs.Common.{arith}
use Rattle.gc_monitor.proofs.code_row.CodeRow.add_due_behind.Goals as goal

pub returns-clause-codes : goal.returns-clause-codes
returns-clause-codes c = grind (arith, common_steps, fields_filled, length-replicate)
