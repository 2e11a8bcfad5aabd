-- A run of useful steps after what a call has done so far, which may be nothing.
use Rattle.std.proofs.lemmas.Grind.{common_steps}
use Rattle.std.proofs.Common.{◌⊎◌, ◌≡◌, inl, inr, ℕ, suc, ◌+◌, ◌-◌, ◌<◌, ◌≤◌, true, false, Option, Some, None, refl, sym, ap, ◌∙◌, subst, arith}
use Rattle.std.specs.Prelude.{IfSome}
use Rattle.gc_model.specs.State.{State}
use Rattle.gc_model.specs.declared.step.Step.TheVariants as steps
use Rattle.gc_model.specs.declared.step.StepReply.{StepReply}
use Rattle.gc_copy.specs.declared.collection.stepping.StepRun.{StepRun}
use Rattle.gc_collected.specs.CollectedHeap.{Allocates}
use Rattle.gc_collected.specs.Collected.{Beside, Collected, Turns, turns_after}
use Rattle.gc_collected.specs.declared.flip.Keep.TheVariants.{Room}
use Rattle.gc_pace.specs.Beside.{HaveRooms, LeavesAfter}
use Rattle.gc_pace.specs.Internal.Performed.{CountedBy, RanSteps, HasDone, at_once, joined_run, steps_in}
use Rattle.gc_pace.specs.Internal.Waiting.{HasLacked, HaveRun}
use Rattle.gc_pace.specs.Work.{HaveFewLooks, IsEnd, IsRun, IsSpent, IsWork, after_useful, useful_reply, end_after, end_in, goes_on, is_flip, units, words_copied}
use Rattle.gc_pace.specs.declared.work.Work.{Work}
use Rattle.gc_pace.specs.declared.work.Looks.{Looks}
use Rattle.gc_pace.specs.declared.work.Looks.TheVariants.{Count, CountUpTo, AreFree}
use Rattle.gc_pace.proofs.Flips.{turns_going}
use Rattle.gc_pace.proofs.Joined.{joined, joined_left, joined_short}
use Rattle.gc_pace.proofs.Runs.{run_over}
use Rattle.gc_pace.proofs.Waiting.{run_open, longer_rooms, lacked_rooms}

pub joined_reply : (o : Option StepRun) (next : StepRun) → (joined_run o next).reply ≡ next.reply
joined_reply None next = refl
joined_reply (Some first) next = refl

pub joined_steps : (o : Option StepRun) (next : StepRun) → (joined_run o next).steps ≡ steps_in o + next.steps
joined_steps None next = omega arith
joined_steps (Some first) next = refl

-- a step after which work goes on is none that flips
pub quiet_so_far : (reply : StepReply) → goes_on reply ≡ true → is_flip reply ≡ false
quiet_so_far reply on = grind (arith, common_steps)

-- the units of looks and steps, and of more of both
pub more_units : (looks_as : Looks) (units looks more steps next all : ℕ) → all ≡ steps + next → CountedBy looks_as looks steps units → CountedBy looks_as (looks + more) all (units + next)
more_units Count units looks more steps next all is low = omega (arith, is, low)
more_units (CountUpTo n) units looks more steps next all is low = omega (arith, is, low)
more_units AreFree units looks more steps next all is low = omega (arith, is, low)

-- so many looks in one unit more
pub few_more : (looks_as : Looks) (units next looks more : ℕ) → 1 ≤ next → more ≤ at_once looks_as looks → HaveFewLooks looks_as units looks → HaveFewLooks looks_as (units + next) (looks + more)
few_more Count units next looks more some within low = omega (arith, some, within, low)
few_more (CountUpTo n) units next looks more some within low = (omega (arith, some, within, low.0), omega (arith, within, low.1))
few_more AreFree units next looks more some within low = tt

module _ (Short : State → StepReply → Type 0) (size : Option ℕ) (old : Collected) where
  -- how many looks are left tells nothing of the steps
  done_alike : (a b : Collected) (o : Option StepRun) → b.core ≡ a.core → b.beside ≡ a.beside → HasDone Short size old a o → HasDone Short size old b o
  done_alike a b None core beside done = (core ∙ done.0, beside ∙ done.1)
  done_alike a b (Some first) core beside done = record {
    run = subst (λ (s : State). IsRun size first.steps old.core s first.reply) (sym core) done.run;
    short = done.short;
    former = subst (λ (x : Beside). LeavesAfter size first.steps old.core old.beside.former x.former) (sym beside) done.former;
    turns = ap (λ (x : Beside). x.turns) beside ∙ done.turns;
    pair = ap (λ (x : Beside). x.pair) beside ∙ done.pair;
  }

  on_alike : (a b : Collected) (o : Option StepRun) → b.core ≡ a.core → IfSome o (λ first. (goes_on first.reply ≡ true) × Short a.core first.reply) → IfSome o (λ first. (goes_on first.reply ≡ true) × Short b.core first.reply)
  on_alike a b o core on = subst (λ (s : State). IfSome o (λ first. (goes_on first.reply ≡ true) × Short s first.reply)) (sym core) on

  rooms_alike : (a b : Collected) (o : Option StepRun) → b.beside ≡ a.beside → IfSome o (λ first. HaveRooms size old.core old.beside (is_flip first.reply) a.beside.rooms) → IfSome o (λ first. HaveRooms size old.core old.beside (is_flip first.reply) b.beside.rooms)
  rooms_alike a b o beside rooms = subst (λ (x : Beside). IfSome o (λ first. HaveRooms size old.core old.beside (is_flip first.reply) x.rooms)) (sym beside) rooms

  module _ (mid new : Collected) (next : StepRun)
      (run : IsRun size next.steps mid.core new.core next.reply)
      (short : (k : ℕ) → suc k < next.steps → Short (after_useful size (suc k) mid.core) (useful_reply size k mid.core))
      (former : LeavesAfter size next.steps mid.core mid.beside.former new.beside.former)
      (turns : new.beside.turns ≡ turns_after Room mid.beside.turns next.reply)
      (pair : new.beside.pair ≡ mid.beside.pair) where
    -- the run goes on with what was done
    goes_further : (o : Option StepRun) → HasDone Short size old mid o → IfSome o (λ first. (goes_on first.reply ≡ true) × Short mid.core first.reply) → RanSteps Short size old new (joined_run o next)
    goes_further None done on = record {
      run = subst (λ (s : State). IsRun size next.steps s new.core next.reply) done.0 run;
      short = subst (λ (s : State). (k : ℕ) → suc k < next.steps → Short (after_useful size (suc k) s) (useful_reply size k s)) done.0 short;
      former = subst (λ (x : Beside). LeavesAfter size next.steps old.core x.former new.beside.former) done.1 (subst (λ (s : State). LeavesAfter size next.steps s mid.beside.former new.beside.former) done.0 former);
      turns = turns ∙ ap (λ (x : Beside). turns_after Room x.turns next.reply) done.1;
      pair = pair ∙ ap (λ (x : Beside). x.pair) done.1;
    }
    goes_further (Some first) done on =
        let at : next.steps + first.steps ≡ first.steps + next.steps = omega arith in record {
          run = subst (λ (k : ℕ). IsRun size k old.core new.core next.reply) at (joined size old.core mid.core new.core first.steps next.steps first.reply next.reply done.run on.0 run);
          short = subst (λ (j : ℕ). (k : ℕ) → suc k < j → Short (after_useful size (suc k) old.core) (useful_reply size k old.core)) at (joined_short Short size old.core mid.core first.steps next.steps first.reply done.run on.1 done.short short);
          former = subst (λ (k : ℕ). LeavesAfter size k old.core old.beside.former new.beside.former) at (joined_left size old.core mid.core first.steps first.reply done.run old.beside.former mid.beside.former done.former next.steps new.beside.former former);
          turns = turns ∙ ap (λ (t : Turns). turns_after Room t next.reply) (done.turns ∙ turns_going old.beside.turns first.reply on.0);
          pair = pair ∙ done.pair;
        }

  -- the rooms after a run more
  rooms_further : (mid new : Collected) (next : StepRun) (o : Option StepRun) → HasDone Short size old mid o → IfSome o (λ first. (goes_on first.reply ≡ true) × Short mid.core first.reply)
      → IfSome o (λ first. HaveRooms size old.core old.beside (is_flip first.reply) mid.beside.rooms) → HaveRooms size mid.core mid.beside (is_flip next.reply) new.beside.rooms
      → HaveRooms size old.core old.beside (is_flip (joined_run o next).reply) new.beside.rooms
  rooms_further mid new next None done on before rooms =
      subst (λ (x : Beside). HaveRooms size old.core x (is_flip next.reply) new.beside.rooms) done.1 (subst (λ (s : State). HaveRooms size s mid.beside (is_flip next.reply) new.beside.rooms) done.0 rooms)
  rooms_further mid new next (Some first) done on before rooms =
      longer_rooms size old.core mid.core old.beside mid.beside first.reply next.reply new.beside.rooms (run_open size first.steps old.core mid.core first.reply done.run on.0) on.0
      (done.turns ∙ turns_going old.beside.turns first.reply on.0) before rooms

  -- a step behind them may have lacked memory
  rooms_lacked : (mid new : Collected) (o : Option StepRun) → new.core ≡ mid.core → HasDone Short size old mid o → IfSome o (λ first. (goes_on first.reply ≡ true) × Short mid.core first.reply)
      → IfSome o (λ first. HaveRooms size old.core old.beside (is_flip first.reply) mid.beside.rooms) → HasLacked mid new.beside.rooms
      → IfSome o (λ first. HaveRun size old.core new.core old.beside (is_flip first.reply) new.beside.rooms)
  rooms_lacked mid new None same done on before lacked = tt
  rooms_lacked mid new (Some first) same done on before lacked =
      let lacks = lacked_rooms size old.core mid old.beside first.reply new.beside.rooms (run_open size first.steps old.core mid.core first.reply done.run on.0) on.0
      (done.turns ∙ turns_going old.beside.turns first.reply on.0) before lacked in
      inr (lacks.0, subst (λ (s : State). Allocates s steps.Flip) (sym same) lacks.1, lacks.2)

-- The same, where looks came between: `was` is the heap before them, `mid` after them.
module _ (Short : State → StepReply → Type 0) (size : Option ℕ) (old was mid new : Collected) (o : Option StepRun) (core : mid.core ≡ was.core) (beside : mid.beside ≡ was.beside)
    (done : HasDone Short size old was o) (on : IfSome o (λ first. (goes_on first.reply ≡ true) × Short was.core first.reply)) where
  pub run_further : (next : StepRun) → IsRun size next.steps mid.core new.core next.reply
      → ((k : ℕ) → suc k < next.steps → Short (after_useful size (suc k) mid.core) (useful_reply size k mid.core))
      → LeavesAfter size next.steps mid.core mid.beside.former new.beside.former
      → new.beside.turns ≡ turns_after Room mid.beside.turns next.reply → new.beside.pair ≡ mid.beside.pair
      → RanSteps Short size old new (joined_run o next)
  run_further next run short former turns pair = goes_further Short size old mid new next run short former turns pair o (done_alike Short size old was mid o core beside done) (on_alike Short size old was mid o core on)

  pub further_rooms : (next : StepRun) → IfSome o (λ first. HaveRooms size old.core old.beside (is_flip first.reply) was.beside.rooms) → HaveRooms size mid.core mid.beside (is_flip next.reply) new.beside.rooms
      → HaveRooms size old.core old.beside (is_flip (joined_run o next).reply) new.beside.rooms
  further_rooms next before rooms = rooms_further Short size old mid new next o (done_alike Short size old was mid o core beside done) (on_alike Short size old was mid o core on) (rooms_alike Short size old was mid o beside before) rooms

  pub further_lacked : new.core ≡ mid.core → IfSome o (λ first. HaveRooms size old.core old.beside (is_flip first.reply) was.beside.rooms) → HasLacked mid new.beside.rooms
      → IfSome o (λ first. HaveRun size old.core new.core old.beside (is_flip first.reply) new.beside.rooms)
  further_lacked same before lacked = rooms_lacked Short size old mid new o same (done_alike Short size old was mid o core beside done) (on_alike Short size old was mid o core on) (rooms_alike Short size old was mid o beside before) lacked

-- ---- the report of a run

-- a run that ended where it had to is work
pub reported : (Short : State → StepReply → Type 0) (looks_as : Looks) (size words : Option ℕ) (most start : ℕ) (old before : Collected) (work : Work) (run : StepRun)
    → start ≡ end_in old.core → work.steps ≡ run.steps → work.copied ≡ end_after before.core run.reply - start → work.last ≡ Some run.reply → RanSteps Short size old before run → run.steps ≤ most
    → IsSpent looks_as most work.looks run.steps ⊎ IsEnd size words before.core run.reply work.copied
    → IfSome words (λ most. (k : ℕ) → suc k < work.steps → words_copied old.core (after_useful size (suc k) old.core) (useful_reply size k old.core) < most)
    → HaveFewLooks looks_as most work.looks → IsWork looks_as size words most old.core before.core work
reported Short looks_as size words most start old before work run begin counted copied last done within ended short few = record {
  none = λ none. absurd (let some = done.run.some in omega (arith, some, none, counted));
  some = λ some. record {
    reply = run.reply;
    run = subst (λ (n : ℕ). IsRun size n old.core before.core run.reply) (sym counted) done.run;
    last = last;
    copied = copied ∙ ap (λ (n : ℕ). end_after before.core run.reply - n) begin;
    within = omega (arith, within, counted);
    ended = subst (λ (n : ℕ). IsSpent looks_as most work.looks n ⊎ IsEnd size words before.core run.reply work.copied) (sym counted) ended;
    enough = λ low. inl (run_over size run.steps old.core before.core run.reply done.run (omega (arith, low, counted)));
    short = short;
  };
  looks = few;
}
