-- The field's value, put into the root, and what is seen of it are the graph and the reply of the machine's `get`.
use Rattle.std.proofs.lemmas.Grind.{common_steps}
use Rattle.std.proofs.Common.{arith}
use Rattle.std.proofs.lemmas.List.{map-set}
use Rattle.gc_graph.proofs.Plains.{got}
use Rattle.gc_graph.proofs.objects.Objects.get.Goals as goal

pub returns : goal.returns
returns c = grind (arith, common_steps, got, map-set)
