-- What useful steps leave of the old space of the last flip.
use Rattle.std.proofs.Common.{◌≡◌, ℕ, Option, refl, sym, ap, subst}
use Rattle.gc_model.specs.State.{State}
use Rattle.gc_model.specs.Steps.{collect}
use Rattle.gc_model.specs.declared.step.StepReply.{StepReply}
use Rattle.gc_copy.specs.Words.{RoomWords}
use Rattle.gc_collected.specs.Flip.{FormerAfter}
use Rattle.gc_collected.specs.declared.flip.Keep.TheVariants.{Room}
use Rattle.gc_pace.specs.Beside.{LeavesAfter}
use Rattle.gc_pace.specs.Work.{sized_step}

-- after one step
pub first_left : (size : Option ℕ) (s u : State) (reply : StepReply) (old new : Option RoomWords) → collect s (sized_step size s) ≡ (reply, u) → FormerAfter Room s old reply new → LeavesAfter size 1 s old new
first_left size s u reply old new step left = (old, refl, subst (λ (r : StepReply). FormerAfter Room s old r new) (sym (ap (λ (x : StepReply × State). x.0) step)) left)
