-- A step that stays useful while it is repeated makes a run of useful steps.
use Rattle.std.proofs.lemmas.Grind.{common_steps}
use Rattle.std.proofs.Common.{◌≡◌, ◌⊎◌, ℕ, zero, suc, ◌-◌, ◌<◌, ◌≤◌, true, false, length, Option, refl, sym, ap, ◌∙◌, subst, arith}
use Rattle.std.specs.Prelude.{◌≢◌, IfSome, Some, IsTrue}
use Rattle.gc_model.specs.State.{Collection, State, new_end}
use Rattle.gc_model.specs.Steps.{collect, is_ready, useful_step}
use Rattle.gc_model.specs.Belonging.{IsSpaceGraph, IsOpened}
use Rattle.gc_model.specs.Progress.{entries_left, ChangesLower, Advances}
use Rattle.gc_model.specs.declared.step.Step.{Step}
use Rattle.gc_model.specs.declared.step.Step.TheVariants as steps
use Rattle.gc_model.specs.declared.step.StepReply.{StepReply}
use Rattle.gc_model.specs.declared.step.StepReply.TheVariants.{Clean, NoRoom, Passed, Scanned, Applied, Refused, Flipped}
use Rattle.gc_model.proofs.Public.{opened_has_room}
use Rattle.gc_copy.specs.Words.{RoomWords}
use Rattle.gc_copy.specs.StepRuns.{repeated, repeat_reply, IsStepRun}
use Rattle.gc_collected.specs.Flip.{FormerAfter}
use Rattle.gc_collected.specs.declared.flip.Keep.TheVariants.{Room}
use Rattle.gc_pace.specs.Internal.Leaving.{LeavesLess, EndsBelow}
use Rattle.gc_pace.specs.Beside.{LeavesAfter}
use Rattle.gc_pace.specs.Work.{sized_step, after_useful, useful_reply, goes_on, is_flip, end_after, IsSoundReply, IsRun}
use Rattle.gc_pace.proofs.Left.{leaves_less}
use Rattle.gc_pace.proofs.Runs.{first_run, longer_run}
use Rattle.gc_pace.proofs.Useful.{flips_if_ready, flips_sized}

-- ---- replies

-- the reply to a scan or to an applied entry
abbrev pub IsQuiet : StepReply → Type 0
IsQuiet r = (r ≡ Clean) ⊎ (r ≡ Passed) ⊎ (r ≡ Scanned) ⊎ (r ≡ Applied) ⊎ (r ≡ NoRoom)

not_flipped : (r : StepReply) (pairs : ℕ) → IsQuiet r → r ≡ Flipped pairs → ⊥
not_flipped r pairs h e = grind (arith, common_steps)

not_refused : (r : StepReply) → IsQuiet r → r ≢ Refused
not_refused r h = grind (arith, common_steps)

goes_unless : (r : StepReply) → IsQuiet r → r ≢ NoRoom → goes_on r ≡ true
goes_unless r h n = grind (arith, common_steps)

no_flip_reply : (r : StepReply) → IsQuiet r → is_flip r ≡ false
no_flip_reply r h = grind (arith, common_steps)

same_former : (s : State) (old : Option RoomWords) (r : StepReply) → IsQuiet r → FormerAfter Room s old r old
same_former s old r h = grind (arith, common_steps)

end_now : (s : State) (d : Collection) (r : StepReply) → s.collection ≡ Some d → IsQuiet r → end_after s r ≡ new_end d
end_now s d r is h = grind (arith, common_steps)

-- ---- the run

-- the laws of useful steps
pub record Laws : Type 1 where
  pub lowers : (s : State) → IsSpaceGraph s.size s.heap.free s.heap.graph → IfSome s.collection (IsOpened s) → ChangesLower s
  pub useful : (s : State) → IsSpaceGraph s.size s.heap.free s.heap.graph → IfSome s.collection (IsOpened s) → Advances s
  pub entries : (s : State) (step : Step) → entries_left (collect s step).1 ≤ entries_left s

-- a state with an open collection, in which this step is useful
pub record IsUsefulIn (size : Option ℕ) (step : Step) (s : State) : Type 0 where
  pub heap : IsSpaceGraph s.size s.heap.free s.heap.graph
  pub collection : Collection
  pub is : s.collection ≡ Some collection
  pub opened : IsOpened s collection
  pub useful : sized_step size s ≡ step
  pub quiet : IsQuiet (collect s step).0

-- Ok holds of states in which the step is useful, and lasts where On holds of the next state, whose new space then ends before the bound
pub record StaysUseful (size : Option ℕ) (step : Step) (On : State → Type 0) (until : ℕ) (Ok : State → Type 0) : Type 0 where
  pub other : step ≢ steps.Flip
  pub known : (s : State) → Ok s → IsUsefulIn size step s
  pub next : (s : State) → Ok s → On (collect s step).1 → Ok (collect s step).1
  pub ends : (s : State) (c : Collection) → s.collection ≡ Some c → On s → new_end c < until

module _ (size : Option ℕ) (step : Step) (On : State → Type 0) (until n : ℕ) (s t : State) (reply : StepReply) (laws : Laws) (Ok : State → Type 0) (stays : StaysUseful size step On until Ok) (first : Ok s) (run : IsStepRun step On n s t reply) where
  -- the state before step k
  abbrev At : ℕ → State
  At k = repeated step k s

  ok_at : (k : ℕ) → k < n → Ok (At k)
  ok_at zero less = first
  ok_at (suc k) less = stays.next (At k) (ok_at k (omega (arith, less))) (run.going k less).1

  in_at : (k : ℕ) → k < n → IsUsefulIn size step (At k)
  in_at k less = stays.known (At k) (ok_at k less)

  step_at : (k : ℕ) → k < n → collect (At k) (sized_step size (At k)) ≡ (repeat_reply step k s, At (suc k))
  step_at k less = ap (collect (At k)) (in_at k less).useful

  opened_at : (k : ℕ) → k < n → IfSome (At k).collection (IsOpened (At k))
  opened_at k less = let u = in_at k less in subst (λ (o : Option Collection). IfSome o (IsOpened (At k))) (sym u.is) u.opened

  -- no collection that is ready is left, since its useful step is the flip
  not_ready : (k : ℕ) → k < n → (c : Collection) → (At k).collection ≡ Some c → is_ready c (At k).heap.graph ≡ true → ⊥
  not_ready k less c is ready = stays.other (sym (in_at k less).useful ∙ flips_sized size (useful_step (At k)) (flips_if_ready (At k) c is ready))

  sound_at : (k : ℕ) → k < n → IsSoundReply (At k) (repeat_reply step k s)
  sound_at k less = let u = in_at k less in record {
    certified = λ pairs e. absurd (not_flipped _ pairs u.quiet e);
    never_refused = not_refused _ u.quiet;
    passes = subst (λ (o : Option Collection). IfSome o (λ c. IsTrue (is_ready c (At k).heap.graph) → repeat_reply step k s ≡ Flipped (length c.replicas))) (sym u.is) (λ ready. absurd (not_ready k less u.collection u.is ready));
    room = subst (λ (o : Option Collection). IfSome o (λ c. (At k).size ≤ c.size → repeat_reply step k s ≢ NoRoom)) (sym u.is) (λ large. opened_has_room (At k) u.heap u.collection u.opened u.is large step);
  }

  leaves_at : (k : ℕ) → k < n → LeavesLess (At k) (At (suc k)) (repeat_reply step k s)
  leaves_at k less = let u = in_at k less in leaves_less size (At k) (At (suc k)) (repeat_reply step k s) (laws.lowers (At k) u.heap (opened_at k less)) (laws.useful (At k) u.heap (opened_at k less))
      (subst (λ (step : Step). entries_left (collect (At k) step).1 ≤ entries_left (At k)) (sym u.useful) (laws.entries (At k) step))
      (step_at k less)

  run_up : (k : ℕ) → k < n → IsRun size (suc k) s (At (suc k)) (repeat_reply step k s)
  run_up zero less = first_run size s (At 1) (repeat_reply step 0 s) (step_at 0 less) (sound_at 0 less) (leaves_at 0 less)
  run_up (suc k) less = longer_run size s (At (suc k)) (At (suc (suc k))) (suc k) (repeat_reply step k s) (repeat_reply step (suc k) s) (run_up k (omega (arith, less)))
      (goes_unless (repeat_reply step k s) (in_at k (omega (arith, less))).quiet (run.going k less).0) (step_at (suc k) less) (sound_at (suc k) less) (leaves_at (suc k) less)

  pub repeats_run : IsRun size n s t reply
  repeats_run =
      let some = run.some in
      let is : suc (n - 1) ≡ n = omega arith in
      subst (IsRun size n s t) (sym run.reply_is) (subst (λ (x : State). IsRun size n s x (repeat_reply step (n - 1) s)) (sym run.state)
      (subst (λ (j : ℕ). IsRun size j s (At j) (repeat_reply step (n - 1) s)) is (run_up (n - 1) (omega arith))))

  -- the states are those of useful steps
  state_at : (k : ℕ) → k ≤ n → At k ≡ after_useful size k s
  state_at zero less = refl
  state_at (suc k) less = (run_up k less).state

  said_at : (k : ℕ) → k < n → repeat_reply step k s ≡ useful_reply size k s
  said_at k less = (run_up k less).reply_is ∙ ap (λ j. useful_reply size j s) (let at : suc k - 1 ≡ k = omega arith in at)

  leaves_up : (old : Option RoomWords) (k : ℕ) → k ≤ n → LeavesAfter size k s old old
  leaves_up old zero less = refl
  leaves_up old (suc k) less = (
    old,
    leaves_up old k (omega (arith, less)),
    subst (λ (x : State). FormerAfter Room x old (useful_reply size k s) old) (state_at k (omega (arith, less)))
        (subst (λ (r : StepReply). FormerAfter Room (At k) old r old) (said_at k less) (same_former (At k) old (repeat_reply step k s) (in_at k less).quiet)),
  )

  pub repeats_leave : (old : Option RoomWords) → LeavesAfter size n s old old
  repeats_leave old = leaves_up old n (omega arith)

  pub repeats_short : EndsBelow size until n s
  repeats_short k less =
      let before : k < n = omega (arith, less) in
      let u = in_at (suc k) less in
      let ends : end_after (At (suc k)) (repeat_reply step k s) < until =
      subst (λ m. m < until) (sym (end_now (At (suc k)) u.collection (repeat_reply step k s) u.is (in_at k before).quiet)) (stays.ends (At (suc k)) u.collection u.is (run.going k less).1) in
      subst (λ (x : State). end_after x (useful_reply size k s) < until) (state_at (suc k) (omega (arith, less)))
      (subst (λ (r : StepReply). end_after (At (suc k)) r < until) (said_at k before) ends)

  pub repeats_flip_not : is_flip reply ≡ false
  repeats_flip_not = let some = run.some in subst (λ (r : StepReply). is_flip r ≡ false) (sym run.reply_is) (no_flip_reply _ (in_at (n - 1) (omega arith)).quiet)
