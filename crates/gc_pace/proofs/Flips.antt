-- How flips are checked after steps and after work: only a flip counts.
use Rattle.std.proofs.lemmas.Grind.{common_steps}
use Rattle.std.proofs.Common.{◌≡◌, true, Some, arith}
use Rattle.gc_model.specs.declared.step.StepReply.{StepReply}
use Rattle.gc_collected.specs.Collected.{Turns, turns_after}
use Rattle.gc_collected.specs.declared.flip.Keep.TheVariants.{Room}
use Rattle.gc_pace.specs.Beside.{turns_after_work}
use Rattle.gc_pace.specs.Work.{goes_on}
use Rattle.gc_pace.specs.declared.work.Work.{Work}

-- a step after which work goes on is no flip
pub turns_going : (t : Turns) (reply : StepReply) → goes_on reply ≡ true → turns_after Room t reply ≡ t
turns_going t reply on = grind (arith, common_steps)

-- the report tells whether the last step was a flip
pub turns_told : (t : Turns) (work : Work) (reply : StepReply) → work.last ≡ Some reply → turns_after Room t reply ≡ turns_after_work t work
turns_told t work reply last = grind (arith, common_steps)
