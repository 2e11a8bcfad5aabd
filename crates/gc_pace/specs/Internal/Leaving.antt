-- What a useful step leaves of the work.
use Rattle.std.specs.Prelude.{◌≡◌, ◌<◌, ℕ, suc, Option, true}
use Rattle.gc_model.specs.State.{State}
use Rattle.gc_model.specs.Progress.{work_left, entries_left}
use Rattle.gc_model.specs.declared.step.StepReply.{StepReply}
use Rattle.gc_pace.specs.Work.{goes_on, after_useful, useful_reply, end_after}

-- The step with this reply, which leads from s to t, lowers the work that is left, unless it ends the work. The entries that remain are
-- fewer than that work was.
pub record LeavesLess (s t : State) (reply : StepReply) : Type 0 where
  pub falls : goes_on reply ≡ true → work_left t < work_left s
  pub logs : entries_left t < work_left s

-- before the last of n useful steps the new space ends below this place
abbrev pub EndsBelow : Option ℕ → ℕ → ℕ → State → Type 0
EndsBelow size until n s = (k : ℕ) → suc k < n → end_after (after_useful size (suc k) s) (useful_reply size k s) < until
