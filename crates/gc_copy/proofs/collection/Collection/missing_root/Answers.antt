-- A turn passes a root whose target has a replica, or ends the search at the first root whose target has none.
use Rattle.std.proofs.lemmas.Grind.{common_steps}
use Rattle.std.proofs.Common.{⊎_elim, arith}
use Rattle.gc_copy.proofs.collection.Collection.missing_root.Goals as goal

pub loop-place-preserved : goal.loop-place-preserved
loop-place-preserved c p low high = grind (arith, common_steps, ⊎_elim)

pub returns-in-Err-clause-first : goal.returns-in-Err-clause-first
returns-in-Err-clause-first c = grind (arith, common_steps)
