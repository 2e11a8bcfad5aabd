-- What a check of the open collection finds, as C sees it.
use Rattle.std.specs.Prelude.{◌≡◌, ℕ, IsSomeAnd}
use Rattle.gc_check.specs.InC.{IsReported}
use Rattle.gc_check.specs.declared.in_c.GcflipVerdict.{GcflipVerdict}
use Rattle.gc_check.specs.declared.verdict.Verdict.TheVariants as verdict
use Rattle.gc_model.specs.State.{State}
use Rattle.gc_model.specs.declared.step.StepReply.TheVariants as steps
use Rattle.gc_collected.specs.Flip.{flip_pair, IsCertified}
use Rattle.gc_collected.specs.declared.checking.Finding.{Finding}
use Rattle.gc_collected.specs.declared.checking.Finding.TheVariants.{Idle, NotReady, Holds, Refused}
use Rattle.gcflip_heap_c.specs.Replies.{step_reply_in_c}

-- The answer of a check that found this, and C's verdict before and after it. It is written if the check looked at the certificate.
abbrev pub TellsFinding : Finding → GcflipVerdict → GcflipVerdict → ℕ → Type 0
TellsFinding Idle before after answer = (answer ≡ step_reply_in_c steps.Idle) × (after ≡ before)
TellsFinding NotReady before after answer = (answer ≡ step_reply_in_c steps.NotReady) × (after ≡ before)
TellsFinding (Holds pairs) before after answer = IsReported (verdict.Yes pairs) answer after
TellsFinding (Refused refusal) before after answer = IsReported (verdict.Refused refusal) answer after

-- a collection is open, and its certificate holds
abbrev pub IsSoundFinding : State → Type 0
IsSoundFinding s = IsSomeAnd s.collection (λ c. IsCertified (flip_pair s c))
