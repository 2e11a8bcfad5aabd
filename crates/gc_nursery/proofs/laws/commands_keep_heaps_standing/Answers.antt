-- Each command keeps the words closed and each old field that refers to a young object remembered.
use Rattle.std.proofs.Common.{arith}
use Rattle.std.proofs.lemmas.Grind.{common_steps}
use Rattle.gc_words.proofs.Public.{closed_root}
use Rattle.gc_nursery.proofs.Commands.{made, old_field, young_field}
use Rattle.gc_nursery.proofs.laws.commands_keep_heaps_standing.Goals as goal

pub returns-clause-made : goal.returns-clause-made
returns-clause-made c size front young roots remembered h place standing can = made size front young roots remembered standing h place can

pub returns-clause-old_field : goal.returns-clause-old_field
returns-clause-old_field c size front young roots remembered a i old w b standing found get is = old_field size front young roots remembered standing a i old w b found get is

pub returns-clause-young_field : goal.returns-clause-young_field
returns-clause-young_field c size front young roots remembered a i old w b standing found get is = young_field size front young roots remembered standing a i old w b found get is

pub returns-clause-root : goal.returns-clause-root
returns-clause-root c size front young roots remembered place w standing is = grind (arith, common_steps, closed_root)
