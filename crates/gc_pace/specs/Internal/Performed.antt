-- The useful steps that a call has performed so far, if there were any, and the looks that it took to find them.
use Rattle.std.specs.Prelude.{◌≡◌, ℕ, suc, ◌+◌, ◌-◌, ◌*◌, ◌/◌, ◌<◌, ◌≤◌, min, false, Option, Some, None}
use Rattle.std.specs.Option.{option_map_or}
use Rattle.gc_model.specs.State.{State}
use Rattle.gc_model.specs.declared.step.StepReply.{StepReply}
use Rattle.gc_copy.specs.declared.collection.stepping.StepRun.{StepRun}
use Rattle.gc_collected.specs.Collected.{Collected, turns_after}
use Rattle.gc_collected.specs.declared.flip.Keep.TheVariants.{Room}
use Rattle.gc_pace.specs.Beside.{LeavesAfter}
use Rattle.gc_pace.specs.declared.work.Looks.{Looks}
use Rattle.gc_pace.specs.declared.work.Looks.TheVariants.{Count, CountUpTo, AreFree}
use Rattle.gc_pace.specs.Work.{IsRun, after_useful, useful_reply, is_flip}

-- a run of steps leads from one heap to another; before the last step it was short of what is enough
pub record RanSteps (Short : State → StepReply → Type 0) (size : Option ℕ) (old new : Collected) (performed : StepRun) : Type 0 where
  pub run : IsRun size performed.steps old.core new.core performed.reply
  pub short : (k : ℕ) → suc k < performed.steps → Short (after_useful size (suc k) old.core) (useful_reply size k old.core)
  pub former : LeavesAfter size performed.steps old.core old.beside.former new.beside.former
  pub turns : new.beside.turns ≡ turns_after Room old.beside.turns performed.reply
  pub pair : new.beside.pair ≡ old.beside.pair

-- a run leads from one heap to another, or there was none, and the heap is as it was
abbrev pub HasDone : (State → StepReply → Type 0) → Option ℕ → Collected → Collected → Option StepRun → Type 0
HasDone Short size old new None = (new.core ≡ old.core) × (new.beside ≡ old.beside)
HasDone Short size old new (Some run) = RanSteps Short size old new run

abbrev pub steps_in : Option StepRun → ℕ
steps_in run = option_map_or (λ (r : StepRun). r.steps) run 0

-- the looks that a call which took so many may take to choose a step
abbrev pub at_once : Looks → ℕ → ℕ
at_once Count taken = 32
at_once (CountUpTo most) taken = min 32 (2 * most - taken)
at_once AreFree taken = 4294967295

-- the units of a call in steps and in turns of looks are no more than this
abbrev pub CountedBy : Looks → ℕ → ℕ → ℕ → Type 0
CountedBy AreFree looks steps units = units ≤ steps
CountedBy looks_as looks steps units = units ≤ steps + looks / 32

-- two runs, the second of which begins where the first ended
abbrev pub joined_run : Option StepRun → StepRun → StepRun
joined_run None next = next
joined_run (Some first) next = record { steps = first.steps + next.steps; reply = next.reply }

-- From `old` looks that were left at first, so many were taken. Where nothing flipped, they are left no more.
pub record HasSeen (old new looks : ℕ) (run : Option StepRun) : Type 0 where
  pub few : looks ≤ old
  pub less : option_map_or (λ (r : StepRun). is_flip r.reply) run false ≡ false → new + looks ≤ old
