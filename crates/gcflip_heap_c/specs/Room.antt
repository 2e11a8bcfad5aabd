-- What a call that reserves room leaves: the steps that are due, and collections while there is too little room.
use Rattle.std.specs.Prelude.{◌≡◌, ◌⊎◌, ℕ, ◌+◌, ◌<◌, ◌≤◌, ◌^◌, ◌-◌, ◌==◌, min, true, if◌then◌else◌, None, IsSome}
use Rattle.std.specs.Option.{option_map_or}
use Rattle.gc_check.specs.InC.{done}
use Rattle.gc_graph.specs.declared.reply.Reply.TheVariants.{Full}
use Rattle.gc_model.specs.State.{State}
use Rattle.gc_collected.specs.Collected.{Collected}
use Rattle.gc_pace.specs.Beside.{LeavesBeside, WasRefused}
use Rattle.gc_pace.specs.Counts.{counts_in}
use Rattle.gc_pace.specs.Pace.{IsPacedWork, pace_from}
use Rattle.gc_pace.specs.Work.{IsWork, has_flipped, no_work}
use Rattle.gc_pace.specs.declared.pace.Pace.{Pace}
use Rattle.gc_pace.specs.declared.work.Looks.TheVariants.{Count}
use Rattle.gc_pace.specs.declared.work.Work.{Work}
use Rattle.gc_model.specs.declared.step.StepReply.{StepReply}
use Rattle.gc_model.specs.declared.step.StepReply.TheVariants.{Busy, NoRoom}
use Rattle.gc_in_c.specs.Replies.{reply_in_c}
use Rattle.gcflip_heap_c.specs.Replies.{step_reply_in_c}
use Rattle.gcflip_heap_c.specs.Work.{work_in_c}
use Rattle.gcflip_heap_c.specs.declared.work.GcflipWork.{GcflipWork}

-- fewer words are free, after a whole collection
abbrev pub full : ℕ
full = reply_in_c Full

-- a collection is open
abbrev pub busy : ℕ
busy = step_reply_in_c Busy

-- fewer words are free, and no whole collection was performed: memory was refused, or the open collection's new space is too small
abbrev pub starved : ℕ
starved = 45

-- this work was done, or memory was refused for its first step
abbrev pub Attempts : (State → State → Work → Type 0) → Collected → Collected → Work → Type 0
Attempts relates old new work = (relates old.core new.core work × LeavesBeside None old new work) ⊎ (WasRefused None old new × (work ≡ no_work))

-- useful steps up to a flip, or as many as one call performs
abbrev pub Finishes : Collected → Collected → Work → Type 0
Finishes old new work = Attempts (IsWork Count None None (2 ^ 32 - 1)) old new work

-- no collection was open before this work, and it ended with a flip
abbrev pub FlipsAnew : Collected → Work → Type 0
FlipsAnew old work = (old.core.collection ≡ None) × (has_flipped work ≡ true)

-- the report of two calls of work: sums, which stay at the largest number of 32 bits, and the last step of both
abbrev pub joined_report : GcflipWork → GcflipWork → GcflipWork
joined_report a b = record {
  steps = min (a.steps + b.steps) (2 ^ 32 - 1);
  copied = min (a.copied + b.copied) (2 ^ 32 - 1);
  last = if b.steps == 0 then a.last else b.last;
  pairs = if b.steps == 0 then a.pairs else b.pairs;
  looks = min (a.looks + b.looks) (2 ^ 32 - 1);
}

-- The open collection ends, if there is one, and one more follows unless there is room then, or none of the two would help.
pub record Collects (old new : Collected) (report : GcflipWork) (answer : ℕ) : Type 0 where
  pub between : Collected
  pub first : Work
  pub second : Work
  pub ends : Finishes old between first
  pub anew : ((new ≡ between) × (second ≡ no_work)) ⊎ Finishes between new second
  pub told : report ≡ joined_report (work_in_c first) (work_in_c second)
  -- a collection that began in this call flipped
  pub whole : answer ≡ full → FlipsAnew old first ⊎ FlipsAnew between second

-- The steps that are due at the pace, and then collections if fewer words are free. After a flip that the pace did not ask for it remembers the heap.
pub record Reserves (words : ℕ) (before after : Pace) (old new : Collected) (report : GcflipWork) (answer : ℕ) : Type 0 where
  pub paced : Collected
  pub pace : Pace
  pub due : Work
  pub works : (IsPacedWork words old paced before pace due × LeavesBeside None old paced due) ⊎ (WasRefused None old paced × (pace ≡ before) × (due ≡ no_work))
  pub rest : ((words ≤ paced.core.heap.free) × (new ≡ paced) × (after ≡ pace) × (report ≡ work_in_c due))
      ⊎ ((paced.core.heap.free < words) × (made : GcflipWork) × Collects paced new made answer × (after ≡ (if answer == starved then pace else pace_from pace (counts_in new)))
      × (report ≡ joined_report (work_in_c due) made))

-- The answer says whether there is room, and if not, whether a whole collection was in vain.
pub record TellsRoom (words free answer : ℕ) : Type 0 where
  pub answers : (answer ≡ done) ⊎ (answer ≡ full) ⊎ (answer ≡ starved)
  pub room : answer ≡ done → words ≤ free
  pub less : ¬ (answer ≡ done) → free < words

-- ---- whole collections

-- why work ended before a flip: a step found no room for a replica, or memory was refused
abbrev pub lack_shown : StepReply → ℕ
lack_shown NoRoom = step_reply_in_c NoRoom
lack_shown reply = starved

abbrev pub lack_of : Work → ℕ
lack_of work = option_map_or lack_shown work.last starved

abbrev pub whole_answer : Work → ℕ
whole_answer work = if has_flipped work then done else lack_of work

-- The open collection ends, if there is one. Unless it is open still, a whole one follows, which begins then. The answer is that of the last.
pub record CollectsAnew (old new : Collected) (report : GcflipWork) (answer : ℕ) : Type 0 where
  pub between : Collected
  pub first : Work
  pub second : Work
  pub ends : ((old.core.collection ≡ None) × (between ≡ old) × (first ≡ no_work)) ⊎ (IsSome old.core.collection × Finishes old between first)
  pub anew : (IsSome between.core.collection × (new ≡ between) × (second ≡ no_work) × (answer ≡ lack_of first))
      ⊎ ((between.core.collection ≡ None) × Finishes between new second × (answer ≡ whole_answer second))
  pub told : report ≡ joined_report (work_in_c first) (work_in_c second)
