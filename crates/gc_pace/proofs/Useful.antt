-- What one useful step does: it flips a ready collection, and it leaves the size of an open collection.
use Rattle.std.proofs.lemmas.Grind.{common_steps}
use Rattle.std.proofs.Common.{◌≡◌, ℕ, ◌+◌, zero, suc, ◌<◌, ◌≤◌, Bool, true, cond, List, [], ◌∷◌, length, Option, Some, None, Result, refl, arith}
use Rattle.std.specs.Prelude.{◌≢◌, IfOk, IfSome, ⊤}
use Rattle.std.specs.Option.{option_map}
use Rattle.std.specs.List.{list_all}
use Rattle.std.proofs.lemmas.Bool.{and_parts}
use Rattle.gc_graph.specs.Graph.{Value, Object, Graph}
use Rattle.gc_model.specs.State.{Collection, State, replica_at}
use Rattle.gc_model.specs.Steps.{is_empty, first_log, scan_done, root_target, is_ready, passes_check, useful_step, place_replica, bring_value, log_at, if_room, copy_root, scan_replica, apply_log, flipped, step_in, collect, next_field}
use Rattle.gc_model.specs.declared.step.Step.{Step}
use Rattle.gc_model.specs.declared.step.Step.TheVariants as steps
use Rattle.gc_model.specs.declared.step.StepReply.{StepReply}
use Rattle.gc_model.specs.declared.step.StepReply.TheVariants.{Clean, NoRoom, NotReady, Refused, Flipped}
use Rattle.gc_collected.specs.Flip.{FlipsOnly, IsCertified, PassesIfReady, HasRoomIfLarge}
use Rattle.gc_pace.specs.Work.{IsSoundReply, IsLarge, with_size, sized_step, after_useful, useful_reply, goes_on}

-- ---- a ready collection

none_first : (logs : List (List (ℕ × ℕ))) (k : ℕ) → list_all is_empty logs ≡ true → first_log k logs ≡ None
none_first [] k e = refl
none_first ([] ∷ logs) k e = none_first logs (k + 1) e
none_first ((entry ∷ log) ∷ logs) k e = absurd cc

pub flips_if_ready : (s : State) (c : Collection) → s.collection ≡ Some c → is_ready c s.heap.graph ≡ true → useful_step s ≡ steps.Flip
flips_if_ready s c is ready = grind (arith, common_steps, and_parts, none_first)

pub flips_sized : (size : Option ℕ) (step : Step) → step ≡ steps.Flip → with_size size step ≡ steps.Flip
flips_sized size step e = grind (arith, common_steps)

-- ---- the size of an open collection

abbrev SameSize : Collection → Option Collection → Type 0
SameSize c o = IfSome o (λ next. next.size ≡ c.size)

placed_size : (c : Collection) (name : ℕ) (o : Option Object) → SameSize c (place_replica c name o)
placed_size c name o = grind (arith, common_steps)

brought_size : (c : Collection) (g : Graph) (name i : ℕ) (o : Option Value) → SameSize c (bring_value c g name i o)
brought_size c g name i o = grind (arith, common_steps, placed_size)

field_size : (c : Collection) (o : Option Collection) → SameSize c o → SameSize c (option_map next_field o)
field_size c o h = grind (arith, common_steps)

-- ---- a new space that is at least as large as the heap stays so until the flip

-- the step does not give the collection up
abbrev Keeps : Step → Type 0
Keeps steps.Drop = ⊥
Keeps step = ⊤

abbrev GoesOn : StepReply × State → Type 0
GoesOn p = goes_on p.0 ≡ true

module _ (size : Option ℕ) (s : State) (c : Collection) (large : IsLarge size s) (fits : s.size ≤ c.size) where
  room_keeps : (reply : StepReply) (o : Option Collection) → SameSize c o → IsLarge size (if_room s reply o).1
  room_keeps reply o h = grind (arith, common_steps)

  root_keeps : (o : Option ℕ) → IsLarge size (copy_root s c o).1
  root_keeps o = grind (arith, common_steps, room_keeps, placed_size)

  scan_keeps : (b : Bool) → IsLarge size (cond b (Clean, s) (scan_replica s c (replica_at c c.scan_place))).1
  scan_keeps b = grind (arith, common_steps, room_keeps, field_size, brought_size)

  log_keeps : (m : ℕ) (entries : List (ℕ × ℕ)) → IsLarge size (apply_log s c m entries).1
  log_keeps m entries = grind (arith, common_steps, room_keeps, brought_size)

  flip_keeps : (ready passes : Bool) → GoesOn (cond {A = StepReply × State} ready (cond passes (Flipped (length c.replicas), flipped s c) (Refused, s)) (NotReady, s))
      → IsLarge size (cond {A = StepReply × State} ready (cond passes (Flipped (length c.replicas), flipped s c) (Refused, s)) (NotReady, s)).1
  flip_keeps ready passes on = grind (arith, common_steps)

  step_keeps : (step : Step) → Keeps step → GoesOn (step_in s c step) → IsLarge size (step_in s c step).1
  step_keeps steps.Begin k on = large
  step_keeps (steps.BeginSized n) k on = large
  step_keeps steps.Roots k on = root_keeps (root_target c s.heap.graph)
  step_keeps steps.Scan k on = scan_keeps (scan_done c)
  step_keeps (steps.Apply m) k on = log_keeps m (log_at c m)
  step_keeps steps.Flip k on = flip_keeps (is_ready c s.heap.graph) (passes_check s c) on
  step_keeps steps.Drop k on = absurd k

large_after : (size : Option ℕ) (s : State) → IsLarge size s → GoesOn (collect s (sized_step size s)) → IsLarge size (collect s (sized_step size s)).1
large_after size s large on = grind (arith, common_steps, step_keeps)

-- the new space is large at each step of a run whose earlier steps did not end the work
pub large_run : (size : Option ℕ) (n : ℕ) (s : State) → IsLarge size s → ((k : ℕ) → suc k < n → goes_on (useful_reply size k s) ≡ true) → (k : ℕ) → k < n → IsLarge size (after_useful size k s)
large_run size n s large going zero less = large
large_run size n s large going (suc k) less = large_after size (after_useful size k s) (large_run size n s large going k (omega (arith, less))) (going k less)

-- ---- the reply to one useful step

-- it does not lack room
pub finds_room : (size : Option ℕ) (s : State) → IsLarge size s → HasRoomIfLarge s (collect s (sized_step size s)).0 → (collect s (sized_step size s)).0 ≢ NoRoom
finds_room size s large room = grind (arith, common_steps)

passes_of : (size : Option ℕ) (s : State) (reply : StepReply) → (sized_step size s ≡ steps.Flip → PassesIfReady s reply) → PassesIfReady s reply
passes_of size s reply passes = grind (arith, common_steps, flips_sized, flips_if_ready)

-- `now` is the state when the step is performed
pub sound_reply : {E : Type 0} (size : Option ℕ) (s now : State) (step : Step) (r : Result StepReply E) → now ≡ s → step ≡ sized_step size s → IfOk r (FlipsOnly IsCertified now) → IfOk r (λ reply. reply ≢ Refused)
    → (step ≡ steps.Flip → IfOk r (PassesIfReady now)) → IfOk r (HasRoomIfLarge now) → IfOk r (IsSoundReply s)
sound_reply size s now step r same is certified unrefused passes room = grind (arith, common_steps, passes_of)
