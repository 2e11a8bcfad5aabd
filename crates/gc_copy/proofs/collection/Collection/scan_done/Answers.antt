-- The end of the new space is the end in the model, so a scan pointer that is there has passed all replicas.
use Rattle.std.proofs.lemmas.Grind.{common_steps}
use Rattle.std.proofs.Common.{arith}
use Rattle.gc_copy.proofs.Spaces.{new_end_is}
use Rattle.gc_copy.proofs.collection.Collection.scan_done.Goals as goal

pub returns : goal.returns
returns c = grind (arith, common_steps, new_end_is)
