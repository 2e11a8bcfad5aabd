-- Equal lists have no first difference.
use Rattle.std.proofs.lemmas.Grind.{common_steps}
use Rattle.std.proofs.Common.{arith}
use Rattle.std.proofs.lemmas.Bool.Decides.{Decides-eqb}
use Rattle.std.proofs.lemmas.Slice.Eq.{slice_eq-Decides}
use Rattle.gc_check.proofs.Placements.{none_unequal}
use Rattle.gc_check.proofs.tables.first_unequal.Goals as goal

pub returns-then-eq : goal.returns-then-eq
returns-then-eq c = grind (arith, common_steps, slice_eq-Decides, Decides-eqb, none_unequal)
