-- What calls of work return and leave, and what C is told of their steps.
use Rattle.std.specs.Prelude.{◌≡◌, ◌≢◌, ◌⊎◌, ℕ, Option}
use Rattle.std.specs.Option.{option_map_or}
use Rattle.gc_check.specs.InC.{done, no_memory}
use Rattle.gc_collected.specs.Collected.{Collected, Rooms, WereRefused}
use Rattle.gc_pace.specs.Beside.{LeavesBeside}
use Rattle.gc_pace.specs.declared.work.Work.{Work}
use Rattle.gcflip_heap_c.specs.Commands.{IsCall, heap_behind}
use Rattle.gcflip_heap_c.specs.Replies.{step_reply_in_c, pairs_after}
use Rattle.gcflip_heap_c.specs.declared.handle.GcflipHeap.{GcflipHeap}
use Rattle.gcflip_heap_c.specs.declared.work.GcflipWork.{GcflipWork}

-- C's report: the numbers that stand for the reply to the last step are 0 if no step was performed
abbrev pub work_in_c : Work → GcflipWork
work_in_c work = record { steps = work.steps; copied = work.copied; last = option_map_or step_reply_in_c work.last 0; pairs = option_map_or (pairs_after 0) work.last 0; looks = work.looks }

-- Work whose begin takes this size leads from one heap to another, and C is told of it. `relates` relates the heaps and the work.
pub record Works (size : Option ℕ) (relates : Collected → Collected → Work → Type 0) (old new : Collected) (report : GcflipWork) : Type 0 where
  pub work : Work
  pub did : relates old new work
  pub beside : LeavesBeside size old new work
  pub told : report ≡ work_in_c work

-- a call of such work, whose arguments are in range if `takes` holds
abbrev pub IsWorkCall : Type 0 → Option ℕ → (Collected → Collected → Work → Type 0) → GcflipHeap → GcflipHeap → GcflipWork → ℕ → Type 0
IsWorkCall takes size relates old new report answer =
    IsCall (λ _. takes) (λ s t. (answer ≡ done) × Works size relates (heap_behind old s) (heap_behind new t) report) old.state new.state answer

-- the rooms after a refused call: where memory was refused, some may have been freed
abbrev pub RefusedRooms : ℕ → Rooms → Rooms → Type 0
RefusedRooms answer old new = ((answer ≡ no_memory) × WereRefused old new) ⊎ ((answer ≢ no_memory) × (new ≡ old))
