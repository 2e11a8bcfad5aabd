-- All that is reachable was visited, so what the visits say of paths holds of the image.
use Rattle.std.proofs.Common.{sym, subst}
use Rattle.std.specs.Prelude.{IfOk, IfSome}
use Rattle.gc_check.specs.Internal.Visits.{AreAllVisited}
use Rattle.gc_check.specs.Paths.{PathLeadsTo, IsShortest}
use Rattle.gc_check.proofs.shortest_path.path_to.Goals as goal

pub path_by-requires-clause-all : goal.path_by-requires-clause-all
path_by-requires-clause-all c = subst (AreAllVisited c.in-Ok.starts) (sym c.as_slice.ensures.value) c.in_ok-visits.ensures.all

pub returns-clause-leads : goal.returns-clause-leads
returns-clause-leads c = subst (λ image. IfOk c.path_by.result (λ found. IfSome found (λ path. PathLeadsTo image path c.args.address))) c.in-Ok.ensures.1 c.path_by.ensures.leads

pub returns-clause-shortest : goal.returns-clause-shortest
returns-clause-shortest c = subst (λ image. IfOk c.path_by.result (λ found. IfSome found (λ path. IsShortest image path c.args.address))) c.in-Ok.ensures.1 c.path_by.ensures.shortest
