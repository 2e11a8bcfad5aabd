-- A monitor goes on following a heap: the collector's steps.
-- For the theorem that the monitor follows its heap.
use Rattle.std.proofs.lemmas.Grind.{common_steps}
use Rattle.std.proofs.Common.{◌≡◌, ℕ, false, List, ◌∷◌, Some, ap, sym, ◌∙◌, subst, arith}
use Rattle.std.specs.Prelude.{IfSome}
use Rattle.gc_model.specs.State.{Collection, State}
use Rattle.gc_model.specs.Linked.{LeadsToOpen}
use Rattle.gc_model.specs.Steps.{log_at, apply_log, collect, step_in, with_collection}
use Rattle.gc_model.specs.Belonging.{IsSpaceGraph, IsOpened}
use Rattle.gc_model.specs.declared.step.Step.{Step}
use Rattle.gc_model.specs.declared.step.Step.TheVariants as steps
use Rattle.gc_model.specs.declared.step.StepReply.{StepReply}
use Rattle.gc_model.specs.declared.step.StepReply.TheVariants.{Copied, Applied}
use Rattle.gc_model.proofs.Public.{steps_stay}
use Rattle.gc_monitor.specs.Claims.{CanPlaceNext, CanApply, OwesNone}
use Rattle.gc_monitor.specs.Events.{Placed, Applied as AppliedTo}
use Rattle.gc_monitor.specs.Tables.{Tables, watch_of}
use Rattle.gc_collected.specs.Internal.Beside.{GoesBeside, heap_words, replica_words}
use Rattle.gc_collected.specs.Internal.Knows.{Knows, open_or_fresh}
use Rattle.gc_collected.specs.Internal.Follows.{Follows}
use Rattle.gc_collected.proofs.Monitor.Beside.{roots_go, apply_go}
use Rattle.gc_collected.proofs.Monitor.Events.{Goes}
use Rattle.gc_collected.specs.Internal.Beside.{AreOld}
use Rattle.gc_collected.proofs.Monitor.StepsKnown.{entry_known, entry_looked, entry_placed, roots_known, roots_told}

-- a step of an open collection
pub record InOpen (s s' : State) (step : Step) (reply : StepReply) (c next : Collection) : Type 0 where
  pub before : IsOpened s c
  pub opened : IsOpened s next
  pub said : step_in s c step ≡ (reply, s')
  pub is : s' ≡ with_collection s (Some next)

in_open : (s s' : State) (step : Step) (reply : StepReply) (c next : Collection) → (step ≡ steps.Flip → ⊥) → collect s step ≡ (reply, s') → IfSome s.collection (IsOpened s) → IfSome s'.collection (IsOpened s') → s.collection ≡ Some c → s'.collection ≡ Some next → InOpen s s' step reply c next
in_open s s' step reply c next other said is_open is_open' first there = grind (arith, common_steps, steps_stay)

-- what is said of words is said of the same words
pub reread : (Says : List ℕ → List ℕ → Type 0) {a b x y : List ℕ} → a ≡ b → x ≡ y → Says a x → Says b y
reread Says {a} {b} {x} {y} e f h = subst (λ ws. Says ws y) e (subst (Says a) f h)

-- the monitor follows the later collection
pub on_with : (s s' : State) (next : Collection) (after : Tables) → s' ≡ with_collection s (Some next) → after.lost ≡ false → Goes s next (watch_of after) → Knows s next after → Follows s' after
on_with s s' next after is found goes knows = subst (λ (x : State). Follows x after) (sym is) (record {
  found = found;
  goes = goes;
  knows = record { agree = knows.agree; due = knows.due; marks = knows.marks; old_room = knows.old_room; new_room = knows.new_room };
})

-- a step that leads from one open collection to another, and the words after it
module _ (s s' : State) (c next : Collection) (old words : List ℕ) (heap : IsSpaceGraph s.size s.heap.free s.heap.graph) (is_open : IfSome s.collection (IsOpened s)) (is_open' : IfSome s'.collection (IsOpened s'))
    (first : s.collection ≡ Some c) (there : s'.collection ≡ Some next) (olds : AreOld s' old) (are : words ≡ replica_words next) (t : Tables) (f : Follows s t) where
  goes : Goes s c (watch_of t)
  goes = subst (λ o. GoesBeside s o (watch_of t)) first f.goes

  knows : Knows s c t
  knows = subst (λ o. Knows s (open_or_fresh s o) t) first f.knows

  by : (step : Step) (reply : StepReply) → (step ≡ steps.Flip → ⊥) → collect s step ≡ (reply, s') → InOpen s s' step reply c next
  by step reply other said = in_open s s' step reply c next other said is_open is_open' first there

  old_is : s' ≡ with_collection s (Some next) → old ≡ heap_words olds.0 s
  old_is is = olds.2 ∙ ap (heap_words olds.0) is

  -- the monitor was told of the next replica
  placing : (mid : Tables) → s' ≡ with_collection s (Some next) → CanPlaceNext (heap_words olds.0 s) (replica_words next) t
      → (t.lost ≡ false → CanPlaceNext old words t → mid.lost ≡ false) → (mid.lost ≡ false → Placed old words t mid) → (mid.lost ≡ false → OwesNone old words t mid)
      → (mid.lost ≡ false) × Placed (heap_words olds.0 s) (replica_words next) t mid × OwesNone (heap_words olds.0 s) (replica_words next) t mid
  placing mid is can stays placed copied =
      let o = old_is is in
      let found : mid.lost ≡ false = stays f.found (reread (λ x y. CanPlaceNext x y t) (sym o) (sym are) can) in
      (found, reread (λ x y. Placed x y t mid) o are (placed found), reread (λ x y. OwesNone x y t mid) o are (copied found))

  pub follows_roots : (after : Tables) → collect s steps.Roots ≡ (Copied, s') → (t.lost ≡ false → CanPlaceNext old words t → after.lost ≡ false) → (after.lost ≡ false → Placed old words t after) → (after.lost ≡ false → OwesNone old words t after) → Follows s' after
  follows_roots after said stays placed copied =
      let x = by steps.Roots Copied (λ e. cc) said in
      let p = placing after x.is (roots_told s c next t olds.0 heap x.before x.opened goes knows s' x.said there) stays placed copied in
      on_with s s' next after x.is p.0 (roots_go s c t heap x.before goes (heap_words olds.0 s) after next s' x.opened x.said there p.1)
      (roots_known s c next t olds.0 heap x.before x.opened goes knows s' x.said there after p.1 p.2)

  pub follows_applied : (m : ℕ) (entry : ℕ × ℕ) (rest : List (ℕ × ℕ)) (mid after : Tables) → log_at c m ≡ entry ∷ rest → collect s (steps.Apply m) ≡ (Applied, s')
      → (t.lost ≡ false → CanPlaceNext old words t → mid.lost ≡ false) → (mid.lost ≡ false → Placed old words t mid) → (mid.lost ≡ false → OwesNone old words t mid)
      → (mid.lost ≡ false → CanApply old words entry.0 entry.1 mid → after.lost ≡ false) → (after.lost ≡ false → AppliedTo old words entry.0 entry.1 mid after) → Follows s' after
  follows_applied m entry rest mid after log said stays placed copied stays' applied =
      let x = by (steps.Apply m) Applied (λ e. cc) said in
      let o = old_is x.is in
      let did : apply_log s c m (entry ∷ rest) ≡ (Applied, s') = ap (apply_log s c m) (sym log) ∙ x.said in
      let p = placing mid x.is (entry_placed s c next t olds.0 heap x.before x.opened goes knows s' m entry rest log did there) stays placed copied in
      let see = entry_looked s c next t olds.0 heap x.before x.opened goes knows s' m entry rest log did there mid p.1 p.2 (subst (LeadsToOpen olds.0) there olds.1) in
      let found : after.lost ≡ false = stays' p.0 (reread (λ o n. CanApply o n entry.0 entry.1 mid) (sym o) (sym are) see) in
      let seen = reread (λ o n. AppliedTo o n entry.0 entry.1 mid after) o are (applied found) in
      on_with s s' next after x.is found (apply_go s c t heap x.before goes (heap_words olds.0 s) mid after m entry rest next s' x.opened did there p.1 seen)
      (entry_known s c next t olds.0 heap x.before x.opened goes knows s' m entry rest log did there mid p.1 p.2 after seen)
