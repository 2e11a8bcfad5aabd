-- A run of useful steps that goes on with one more is a run.
use Rattle.std.proofs.lemmas.Grind.{common_steps}
use Rattle.std.proofs.Common.{◌≡◌, ℕ, suc, ◌-◌, ◌<◌, ◌≤◌, Bool, Option, true, false, refl, sym, ap, ◌∙◌, subst, ⊎_elim, arith}
use Rattle.std.specs.Prelude.{◌≢◌}
use Rattle.std.proofs.lemmas.Bool.{cases_lt}
use Rattle.gc_model.specs.State.{State}
use Rattle.gc_model.specs.Steps.{collect}
use Rattle.gc_model.specs.declared.step.StepReply.{StepReply}
use Rattle.gc_model.specs.declared.step.StepReply.TheVariants.{NoRoom}
use Rattle.gc_pace.specs.Internal.Leaving.{LeavesLess}
use Rattle.gc_pace.specs.Work.{sized_step, after_useful, useful_reply, goes_on, IsSoundReply, IsLarge, IsRun}
use Rattle.gc_model.specs.Progress.{work_left}
use Rattle.gc_pace.proofs.Left.{some_left}
use Rattle.gc_pace.proofs.Useful.{large_run, finds_room}

made : (size : Option ℕ) (s : State) (n : ℕ) (t u : State) (reply : StepReply) → t ≡ after_useful size n s → collect t (sized_step size t) ≡ (reply, u)
    → (reply ≡ useful_reply size n s) × (u ≡ after_useful size (suc n) s)
made size s n t u reply is step = grind (arith, common_steps)

abbrev SoundBelow : Option ℕ → ℕ → State → Type 0
SoundBelow size n s = (k : ℕ) → k < n → IsSoundReply (after_useful size k s) (useful_reply size k s)

abbrev GoesBelow : Option ℕ → ℕ → State → Type 0
GoesBelow size n s = (k : ℕ) → suc k < n → goes_on (useful_reply size k s) ≡ true

-- no reply lacks room if the new space was large at first
pub room_of : (size : Option ℕ) (n : ℕ) (s : State) → SoundBelow size n s → GoesBelow size n s → IsLarge size s → (k : ℕ) → k < n → useful_reply size k s ≢ NoRoom
room_of size n s sound going large k less = finds_room size (after_useful size k s) (large_run size n s large going k less) (sound k less).room

-- as many steps as work is left end it
pub run_over : (size : Option ℕ) (n : ℕ) (s t : State) (reply : StepReply) → IsRun size n s t reply → work_left s ≤ n → goes_on reply ≡ false
run_over size n s t reply run low = from (goes_on reply) refl
  where
    from : (b : Bool) → goes_on reply ≡ b → goes_on reply ≡ false
    from false e = e
    from true e = absurd (let falls = run.falls e in omega (arith, falls, low, some_left t))

-- the first step
pub first_run : (size : Option ℕ) (s u : State) (reply : StepReply) → collect s (sized_step size s) ≡ (reply, u) → IsSoundReply s reply → LeavesLess s u reply → IsRun size 1 s u reply
first_run size s u reply step sound leaves =
    let m = made size s 0 s u reply (λ i. s) step in
    let all : SoundBelow size 1 s = λ k less. let none : 0 ≡ k = omega arith in subst (λ (j : ℕ). IsSoundReply (after_useful size j s) (useful_reply size j s)) none (subst (IsSoundReply s) m.0 sound) in
    let going : GoesBelow size 1 s = λ k less. absurd (omega arith) in
    let entries = leaves.logs in
    record {
      some = omega arith;
      state = m.1;
      reply_is = m.0;
      going = going;
      sound = all;
      room = room_of size 1 s all going;
      falls = λ on. let less = leaves.falls on in omega arith;
      logs = omega arith;
    }

pub longer_run : (size : Option ℕ) (s t u : State) (n : ℕ) (before reply : StepReply) → IsRun size n s t before → goes_on before ≡ true → collect t (sized_step size t) ≡ (reply, u) → IsSoundReply t reply → LeavesLess t u reply → IsRun size (suc n) s u reply
longer_run size s t u n before reply run on step sound leaves =
    let m = made size s n t u reply run.state step in
    let at : n ≡ suc n - 1 = omega arith in
    let entries = leaves.logs in
    let left = run.falls on in
    record {
      some = omega arith;
      state = m.1;
      reply_is = subst (λ (j : ℕ). reply ≡ useful_reply size j s) at m.0;
      going = going;
      sound = all;
      room = room_of size (suc n) s all going;
      falls = λ goes. let less = leaves.falls goes in omega arith;
      logs = omega arith;
    }
  where
    last_sound : IsSoundReply (after_useful size n s) (useful_reply size n s)
    last_sound =
        let m = made size s n t u reply run.state step in
        subst (λ (x : State). IsSoundReply x (useful_reply size n s)) run.state (subst (IsSoundReply t) m.0 sound)

    all : SoundBelow size (suc n) s
    all k less = ⊎_elim
        (λ early. run.sound k early)
        (λ late. let last : n ≡ k = omega arith in subst (λ (j : ℕ). IsSoundReply (after_useful size j s) (useful_reply size j s)) last last_sound)
        (cases_lt k n)

    going : GoesBelow size (suc n) s
    going k less = ⊎_elim
        (λ early. run.going k early)
        (λ late. let last : n - 1 ≡ k = omega arith in subst (λ (j : ℕ). goes_on (useful_reply size j s) ≡ true) last (ap goes_on (sym run.reply_is) ∙ on))
        (cases_lt (suc k) n)
