-- A row that starts anew is one word of bits with its entries, which is place 0.
use Rattle.std.proofs.lemmas.Grind.{common_steps}
use Rattle.std.proofs.Common.{arith}
use Rattle.gc_monitor.proofs.Halves.{has_one_of, one_origin_of}
use Rattle.gc_monitor.proofs.origin_row.OriginRow.restart.Goals as goal

pub invariant_of-self : goal.invariant_of-self
invariant_of-self c = grind (arith, common_steps, has_one_of)

pub returns-clause-origins : goal.returns-clause-origins
returns-clause-origins c = grind (arith, common_steps, one_origin_of)
