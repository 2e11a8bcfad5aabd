-- A word of zeros and its originals are the row of place 0.
use Rattle.std.proofs.lemmas.Grind.{common_steps}
use Rattle.std.proofs.Common.{arith}
use Rattle.gc_monitor.proofs.Halves.{has_one_of, one_origin_of}
use Rattle.gc_monitor.proofs.origin_row.OriginRow.new.Goals as goal

pub invariant_of-result : goal.invariant_of-result
invariant_of-result c = grind (arith, common_steps, has_one_of)

pub returns : goal.returns
returns c = grind (arith, common_steps, one_origin_of)
