-- A turn adds the receipt of one more command of the script.
use Rattle.std.proofs.lemmas.Grind.{common_steps}
use Rattle.std.proofs.Common.{arith}
use Rattle.gc_shared.proofs.ScriptEvents.{played_more}
use Rattle.gc_shared.proofs.script.play.Goals as goal

pub loop-n-preserved : goal.loop-n-preserved
loop-n-preserved g c = grind (arith, common_steps, played_more)
