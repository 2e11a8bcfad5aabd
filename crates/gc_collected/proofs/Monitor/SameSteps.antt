-- The collector's steps whose reply says that they did nothing.
-- For the theorem that the monitor follows its heap.
use Rattle.std.proofs.lemmas.Grind.{common_steps}
use Rattle.std.proofs.Common.{◌≡◌, ℕ, arith}
use Rattle.gc_model.specs.State.{State}
use Rattle.gc_model.specs.Steps.{collect}
use Rattle.gc_model.specs.declared.step.Step.TheVariants as steps
use Rattle.gc_model.specs.declared.step.StepReply.{StepReply}
use Rattle.gc_model.specs.declared.step.StepReply.TheVariants.{Copied, Applied}

pub roots_or_same : (s s' : State) (reply : StepReply) → collect s steps.Roots ≡ (reply, s') → (reply ≡ Copied → ⊥) → s' ≡ s
roots_or_same s s' reply said other = grind (arith, common_steps)

pub apply_or_same : (s s' : State) (m : ℕ) (reply : StepReply) → collect s (steps.Apply m) ≡ (reply, s') → (reply ≡ Applied → ⊥) → s' ≡ s
apply_or_same s s' m reply said other = grind (arith, common_steps)
