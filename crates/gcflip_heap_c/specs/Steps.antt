-- What a call of a collector step returns, and the state after it.
use Rattle.std.specs.Prelude.{◌≡◌, ℕ, Option}
use Rattle.gc_model.specs.State.{State}
use Rattle.gc_model.specs.Steps.{collect}
use Rattle.gc_model.specs.declared.step.Step.{Step}
use Rattle.gc_model.specs.declared.step.Step.TheVariants as steps
use Rattle.gc_model.specs.declared.step.StepReply.{StepReply}
use Rattle.gcflip_heap_c.specs.Commands.{IsCall, Replies}
use Rattle.gcflip_heap_c.specs.Replies.{step_reply_in_c}
use Rattle.gcflip_heap_c.specs.declared.stepping.GcflipStep.{GcflipStep}

-- the step as C sees it
abbrev pub step_in_c : Step → GcflipStep
step_in_c steps.Begin = record { name = 1; mutator = 0 }
step_in_c (steps.BeginSized size) = record { name = 2; mutator = 0 }
step_in_c steps.Roots = record { name = 3; mutator = 0 }
step_in_c steps.Scan = record { name = 4; mutator = 0 }
step_in_c (steps.Apply m) = record { name = 5; mutator = m }
step_in_c steps.Flip = record { name = 6; mutator = 0 }
step_in_c steps.Drop = record { name = 7; mutator = 0 }

-- a call that performs the step, and returns the number of its reply
abbrev pub IsStepCall : (State → Type 0) → Step → Option State → Option State → ℕ → Type 0
IsStepCall takes step old new answer = IsCall takes (Replies (λ s. collect s step) (λ reply. answer ≡ step_reply_in_c reply)) old new answer

-- the answer is the number of a reply for which `shown` holds
abbrev pub ShowsReply : (StepReply → Type 0) → ℕ → Type 0
ShowsReply shown answer = (reply : StepReply) × (answer ≡ step_reply_in_c reply) × shown reply
