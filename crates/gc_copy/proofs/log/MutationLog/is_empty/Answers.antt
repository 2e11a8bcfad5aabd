-- The log has an entry exactly if its last segment has one.
use Rattle.std.proofs.lemmas.Grind.{common_steps}
use Rattle.std.proofs.Common.{arith}
use Rattle.gc_copy.proofs.Segments.{empty_if}
use Rattle.gc_copy.proofs.log.MutationLog.is_empty.Goals as goal

pub returns : goal.returns
returns c = grind (arith, common_steps, empty_if)
