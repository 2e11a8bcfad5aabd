-- A step that is repeated: once more, for the last time, and behind others.
use Rattle.std.proofs.lemmas.Grind.{common_steps}
use Rattle.std.proofs.lemmas.Bool.{cases_lt}
use Rattle.std.proofs.Common.{◌≡◌, ℕ, zero, suc, ◌+◌, ◌-◌, ◌<◌, ◌≤◌, ap, sym, ◌∙◌, subst, ⊎_elim, arith}
use Rattle.std.specs.Prelude.{◌≢◌}
use Rattle.gc_model.specs.State.{State}
use Rattle.gc_model.specs.Steps.{collect}
use Rattle.gc_model.specs.declared.step.Step.{Step}
use Rattle.gc_model.specs.declared.step.StepReply.{StepReply}
use Rattle.gc_model.specs.declared.step.StepReply.TheVariants.{NoRoom}
use Rattle.gc_copy.specs.StepRuns.{repeated, repeat_reply, IsStepRun}

module _ (step : Step) (On : State → Type 0) where
  -- step k found room, and another may follow
  abbrev Goes : State → ℕ → Type 0
  Goes s k = (repeat_reply step k s ≢ NoRoom) × On (repeated step (suc k) s)

  -- n steps lead from s to t, and another may follow each of them
  pub record IsRepeating (n : ℕ) (s t : State) : Type 0 where
    pub state : t ≡ repeated step n s
    pub going : (k : ℕ) → k < n → Goes s k

  -- the next step, which got this reply
  next : (s : State) (n : ℕ) (t u : State) (reply : StepReply) → t ≡ repeated step n s → collect t step ≡ (reply, u) → (reply ≡ repeat_reply step n s) × (u ≡ repeated step (suc n) s)
  next s n t u reply is made = grind (arith, common_steps)

  pub repeats_longer : (s t u : State) (n : ℕ) (reply : StepReply) → IsRepeating n s t → collect t step ≡ (reply, u) → reply ≢ NoRoom → On u → IsRepeating (suc n) s u
  repeats_longer s t u n reply run made room on =
      let m = next s n t u reply run.state made in
      let last_goes : Goes s n = (subst (λ (r : StepReply). r ≢ NoRoom) m.0 room, subst On m.1 on) in
      record {
        state = m.1;
        going = λ k less. ⊎_elim
            (λ early. run.going k early)
            (λ late. let last : n ≡ k = omega arith in subst (Goes s) last last_goes)
            (cases_lt k n);
      }

  -- the last step of a run
  pub repeats_last : (s t u : State) (n : ℕ) (reply : StepReply) → IsRepeating n s t → collect t step ≡ (reply, u) → IsStepRun step On (suc n) s u reply
  repeats_last s t u n reply run made =
      let m = next s n t u reply run.state made in
      let at : n ≡ suc n - 1 = omega arith in
      record {
        some = omega arith;
        state = m.1;
        reply_is = subst (λ (j : ℕ). reply ≡ repeat_reply step j s) at m.0;
        going = λ k less. run.going k (omega (arith, less));
      }

  -- a step may follow this run
  pub run_goes_on : (n : ℕ) (s t : State) (reply : StepReply) → IsStepRun step On n s t reply → reply ≢ NoRoom → On t → IsRepeating n s t
  run_goes_on n s t reply run room on = record {
    state = run.state;
    going = λ k less. ⊎_elim
        (λ early. run.going k early)
        (λ late. (let some = run.some in let last : n - 1 ≡ k = omega arith in let at : n ≡ suc k = omega arith in
        (subst (λ (r : StepReply). r ≢ NoRoom) (run.reply_is ∙ ap (λ (j : ℕ). repeat_reply step j s) last) room, subst On (run.state ∙ ap (λ (j : ℕ). repeated step j s) at) on)))
        (cases_lt (suc k) n);
  }

  after_more : (s : State) (n m : ℕ) → repeated step (n + m) s ≡ repeated step m (repeated step n s)
  after_more s n zero = let at : n + 0 ≡ n = omega arith in ap (λ (j : ℕ). repeated step j s) at
  after_more s n (suc m) =
      let at : n + suc m ≡ suc (n + m) = omega arith in
      ap (λ (j : ℕ). repeated step j s) at ∙ ap (λ (x : State). (collect x step).1) (after_more s n m)

  -- a run behind other steps
  pub runs_join : (n m : ℕ) (s t u : State) (reply : StepReply) → IsRepeating n s t → IsStepRun step On m t u reply → IsStepRun step On (n + m) s u reply
  runs_join n m s t u reply first run = record {
    some = let some = run.some in omega arith;
    state = run.state ∙ behind m;
    reply_is = run.reply_is ∙ reply_behind (m - 1) ∙ (let some = run.some in let at : n + (m - 1) ≡ n + m - 1 = omega arith in ap (λ (j : ℕ). repeat_reply step j s) at);
    going = going;
  }
    where
      behind : (k : ℕ) → repeated step k t ≡ repeated step (n + k) s
      behind k = ap (repeated step k) first.state ∙ sym (after_more s n k)

      reply_behind : (k : ℕ) → repeat_reply step k t ≡ repeat_reply step (n + k) s
      reply_behind k = ap (λ (x : State). (collect x step).0) (behind k)

      going : (k : ℕ) → suc k < n + m → Goes s k
      going k less = ⊎_elim
          (λ early. first.going k early)
          (λ late. (
          let some = run.some in
          let g = run.going (k - n) (omega (arith, less, late)) in
          let at : n + (k - n) ≡ k = omega arith in
          let next_at : n + suc (k - n) ≡ suc k = omega arith in (
            subst (λ (r : StepReply). r ≢ NoRoom) (reply_behind (k - n) ∙ ap (λ (j : ℕ). repeat_reply step j s) at) g.0,
            subst On (behind (suc (k - n)) ∙ ap (λ (j : ℕ). repeated step j s) next_at) g.1,
          )))
          (cases_lt k n)

  -- a run of one step
  pub one_step : (n : ℕ) (s t : State) (reply : StepReply) → IsStepRun step On n s t reply → n ≤ 1 → collect s step ≡ (reply, t)
  one_step n s t reply run few =
      let some = run.some in
      let one : n ≡ 1 = omega arith in
      let none : n - 1 ≡ 0 = omega arith in
      λ i. (sym (run.reply_is ∙ ap (λ (j : ℕ). repeat_reply step j s) none) i, sym (run.state ∙ ap (λ (j : ℕ). repeated step j s) one) i)
