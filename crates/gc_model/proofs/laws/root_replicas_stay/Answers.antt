-- While a collection is open no step removes a replica, and a command changes one root at most.
use Rattle.std.proofs.Common.{arith}
use Rattle.std.proofs.lemmas.Grind.{common_steps}
use Rattle.gc_model.proofs.RootsStay.{collect_stays, root_kept, mutate_stays}
use Rattle.gc_model.proofs.laws.root_replicas_stay.Goals as goal

pub returns : goal.returns
returns = grind (arith, common_steps, collect_stays, mutate_stays, root_kept)
