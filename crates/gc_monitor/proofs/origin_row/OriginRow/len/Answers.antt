-- A caller sees as many originals, and zeros, as the row counts places.
use Rattle.std.proofs.lemmas.Grind.{common_steps}
use Rattle.gc_monitor.proofs.Halves.{length-origins}
use Rattle.std.proofs.Common.{arith}
use Rattle.gc_monitor.proofs.origin_row.OriginRow.len.Goals as goal

pub returns : goal.returns
returns c = grind (arith, common_steps, length-origins)
