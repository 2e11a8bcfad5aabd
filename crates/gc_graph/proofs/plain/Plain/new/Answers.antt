-- All roots are nil and there is no object, so every name is below the first one to be given.
use Rattle.std.proofs.lemmas.Grind.{common_steps}
use Rattle.std.proofs.Common.{arith}
use Rattle.gc_graph.proofs.Plains.{held_each}
use Rattle.gc_graph.proofs.Bounds.{opening_below}
use Rattle.gc_graph.proofs.plain.Plain.new.Goals as goal

pub returns : goal.returns
returns c = grind (arith, common_steps, held_each)

pub invariant_of-result : goal.invariant_of-result
invariant_of-result c = grind (arith, common_steps, held_each, opening_below)
