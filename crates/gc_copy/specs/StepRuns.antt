-- One step of the collector, performed several times in order by one call.
use Rattle.std.specs.Prelude.{◌≡◌, ◌≢◌, ℕ, zero, suc, ◌-◌, ◌<◌, ◌≤◌, true, false, IfSome}
use Rattle.gc_model.specs.State.{State, new_end}
use Rattle.gc_model.specs.Steps.{collect, is_empty, log_at, scan_done}
use Rattle.gc_model.specs.declared.step.Step.{Step}
use Rattle.gc_model.specs.declared.step.Step.TheVariants.{Scan, Apply}
use Rattle.gc_model.specs.declared.step.StepReply.{StepReply}
use Rattle.gc_model.specs.declared.step.StepReply.TheVariants.{NoRoom}

-- the state that n of this step lead to
abbrev pub repeated : Step → ℕ → State → State
repeated step zero s = s
repeated step (suc n) s = (collect (repeated step n s) step).1

-- the reply to step n, counted from 0
abbrev pub repeat_reply : Step → ℕ → State → StepReply
repeat_reply step n s = (collect (repeated step n s) step).0

-- n of this step lead from s to t, the last with this reply; those before it found room, and led to states of which On holds
pub record IsStepRun (step : Step) (On : State → Type 0) (n : ℕ) (s t : State) (reply : StepReply) : Type 0 where
  pub some : 1 ≤ n
  pub state : t ≡ repeated step n s
  pub reply_is : reply ≡ repeat_reply step (n - 1) s
  pub going : (k : ℕ) → suc k < n → (repeat_reply step k s ≢ NoRoom) × On (repeated step (suc k) s)

-- something is left to scan in this state, and its new space ends before the bound
abbrev pub ScansOn : ℕ → State → Type 0
ScansOn until s = IfSome s.collection (λ c. (scan_done c ≡ false) × (new_end c < until))

-- nothing is left to scan in this state, mutator m's log has an entry, and the new space ends before the bound
abbrev pub AppliesOn : ℕ → ℕ → State → Type 0
AppliesOn m until s = IfSome s.collection (λ c. (scan_done c ≡ true) × (is_empty (log_at c m) ≡ false) × (new_end c < until))

-- n scans, each but the last of which leaves something to scan
abbrev pub IsScanRun : ℕ → ℕ → State → State → StepReply → Type 0
IsScanRun until n s t reply = IsStepRun Scan (ScansOn until) n s t reply

-- n entries of mutator m's log are applied, each but the last of which leaves an entry, and nothing to scan
abbrev pub IsApplyRun : ℕ → ℕ → ℕ → State → State → StepReply → Type 0
IsApplyRun m until n s t reply = IsStepRun (Apply m) (AppliesOn m until) n s t reply
