-- Which replies mean a change, and that the useful step makes one if there is room.
use Rattle.std.proofs.lemmas.Grind.{common_steps}
use Rattle.std.specs.Prelude.{IfSome}
use Rattle.std.specs.Option.{unwrap_or}
use Rattle.std.proofs.Common.{◌||◌, ◌≡◌, ◌⊎◌, inr, ⊎_elim, ℕ, zero, suc, ◌+◌, ◌==◌, true, false, not, List, [], ◌∷◌, length, Option, Some, None, slice_get, refl, ap, sym, ◌∙◌, subst, arith}
use Rattle.std.specs.List.{list_all}
use Rattle.std.proofs.lemmas.Bool.{cond-false, cond_both, and_from, eq-eqb, not-true, not-false}
use Rattle.gc_model.specs.State.{Replica, Collection, State, new_end, replica_at}
use Rattle.gc_model.specs.Steps.{if_room, scan_done, scan_replica, scan, is_empty, collect, is_change, first_log, useful_step}
use Rattle.gc_model.specs.Belonging.{IsSpaceGraph, IsDue, IsOpened, IsState}
use Rattle.gc_model.specs.declared.step.Step.{Step}
use Rattle.gc_model.specs.declared.step.StepReply.{StepReply}
use Rattle.gc_model.specs.declared.step.StepReply.TheVariants.{Clean, NoRoom, Scanned}
use Rattle.gc_model.proofs.Links.{found_by_place}
use Rattle.gc_model.proofs.Flips.{flips}

-- ---- after a reply that means no change, the state is the same

pub quiet_answers : (s : State) (step : Step) → is_change (collect s step).0 ≡ false → (collect s step).1 ≡ s
quiet_answers s step = grind (arith, common_steps, cond_both)

-- ---- the useful step

abbrev Brings : StepReply × State → Type 0
Brings next = (next.0 ≡ NoRoom) ⊎ (is_change next.0 ≡ true)

room_brings : (s : State) (reply : StepReply) (o : Option Collection) → is_change reply ≡ true → Brings (if_room s reply o)
room_brings s reply o changes = grind (arith, common_steps)

scan_brings : (s : State) (c : Collection) → IsOpened s c → not (scan_done c) ≡ true → Brings (scan s c)
scan_brings s c k before = subst Brings (sym (cond-false (scan_done c) (Clean, s) (scan_replica s c (replica_at c c.scan_place)) unfinished)) (⊎_elim
    (λ x. let there = found_by_place (IsDue c) s.heap.graph.objects c k.belongs x.0 x.1 in
    subst (λ t. Brings (scan_replica s c t)) (sym (ap (replica_at c) (sym x.2) ∙ there)) (one x.0))
    (λ x. absurd (let done : scan_done c ≡ true = eq-eqb c.scan_place (new_end c) x.0 in cc (sym unfinished, done)))
    (k.belongs).scan)
  where
    unfinished : scan_done c ≡ false
    unfinished = not-true (scan_done c) before

    one : (r : Replica) → Brings (scan_replica s c (Some r))
    one r = cond_both (r.object.raw || (c.scan_field == length r.object.fields)) _ _ Brings (λ t. inr refl) (λ t. room_brings s Scanned _ refl)

-- the first log with an entry has one; if there is no such log, all are empty
pub found_log : (logs : List (List (ℕ × ℕ))) (k m : ℕ) → first_log k logs ≡ Some m → (j : ℕ) × (m ≡ k + j) × (is_empty (unwrap_or (slice_get logs j) []) ≡ false)
found_log [] k m h = absurd cc
found_log ([] ∷ logs) k m h = let r = found_log logs (k + 1) m h in (suc r.0, (let e = r.1 in omega arith), r.2)
found_log ((entry ∷ log) ∷ logs) k m h = (zero, (let e : k ≡ m = cc h in omega arith), refl)

no_log : (logs : List (List (ℕ × ℕ))) (k : ℕ) → first_log k logs ≡ None → list_all is_empty logs ≡ true
no_log [] k h = refl
no_log ([] ∷ logs) k h = no_log logs (k + 1) h
no_log ((entry ∷ log) ∷ logs) k h = absurd cc

pub useful_changes : (s : State) → IsSpaceGraph s.size s.heap.free s.heap.graph → IfSome s.collection (IsOpened s) → ((collect s (useful_step s)).0 ≡ NoRoom) ⊎ (is_change (collect s (useful_step s)).0 ≡ true)
useful_changes s h opened = grind (arith, common_steps, flips, and_from, no_log, found_log, room_brings, cond_both, scan_brings, not-false)

pub useful_brings : (s : State) → IsState s → ((collect s (useful_step s)).0 ≡ NoRoom) ⊎ (is_change (collect s (useful_step s)).0 ≡ true)
useful_brings s h = useful_changes s h.heap h.collection
