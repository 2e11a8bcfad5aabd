-- The replicas fill the new space up to its end, so the end of the space is the end in the model.
use Rattle.std.proofs.lemmas.Grind.{common_steps}
use Rattle.std.proofs.Common.{arith}
use Rattle.gc_copy.proofs.Spaces.{new_end_is}
use Rattle.gc_copy.proofs.collection.Collection.end.Goals as goal

pub returns : goal.returns
returns c = grind (arith, common_steps, new_end_is)
