-- A step that is repeated removes no replica, so the roots that are known to have one still have it.
use Rattle.std.proofs.Common.{◌≡◌, ◌≢◌, ℕ, zero, suc, Option, Some, None, refl, ap, sym, ◌∙◌, subst}
use Rattle.std.specs.Option.{option_map_or}
use Rattle.gc_model.specs.State.{Collection, State}
use Rattle.gc_model.specs.Steps.{collect, step_idle, step_in}
use Rattle.gc_model.specs.declared.step.Step.{Step}
use Rattle.gc_model.specs.declared.step.Step.TheVariants as steps
use Rattle.gc_model.specs.declared.step.StepReply.{StepReply}
use Rattle.gc_model.specs.declared.step.StepReply.TheVariants.{Idle}
use Rattle.gc_copy.specs.StepRuns.{repeated, IsStepRun}
use Rattle.gc_collected.specs.declared.known.KnownRoots.{KnownRoots}
use Rattle.gc_collected.specs.Internal.KnownRoots.{KnowsRoots}
use Rattle.gc_collected.proofs.Marks.{step_knows}

module _ (known : KnownRoots) (step : Step) (other : step ≢ steps.Flip) (idle : (s : State) → step_idle s step ≡ (Idle, s)) where
  once : (s : State) → KnowsRoots known s → KnowsRoots known (collect s step).1
  once s k = go s.collection refl
    where
      go : (o : Option Collection) → s.collection ≡ o → KnowsRoots known (collect s step).1
      go None is = subst (KnowsRoots known) (sym (ap (λ (x : StepReply × State). x.1) (ap (λ (o : Option Collection). option_map_or (λ c. step_in s c step) o (step_idle s step)) is ∙ idle s))) k
      go (Some c) is = step_knows known s c step is other k

  often : (n : ℕ) (s : State) → KnowsRoots known s → KnowsRoots known (repeated step n s)
  often zero s k = k
  often (suc n) s k = once (repeated step n s) (often n s k)

  pub run_knows : (On : State → Type 0) (n : ℕ) (s t : State) (reply : StepReply) → IsStepRun step On n s t reply → KnowsRoots known s → KnowsRoots known t
  run_knows On n s t reply run k = subst (KnowsRoots known) (sym run.state) (often n s k)
