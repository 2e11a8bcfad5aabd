-- The first log that has an entry belongs to one of the heap's mutators.
use Rattle.std.proofs.lemmas.Grind.{common_steps}
use Rattle.std.proofs.Common.{◌≡◌, ℕ, ◌+◌, ◌<◌, List, [], ◌∷◌, length, Option, Some, sym, subst, arith, if◌then◌else◌}
use Rattle.std.specs.Prelude.{not}
use Rattle.std.specs.Option.{option_map, option_map_or}
use Rattle.std.proofs.lemmas.Bool.{cond_both}
use Rattle.std.proofs.lemmas.List.{length-map}
use Rattle.gc_heap.specs.Heap.{HeapWords}
use Rattle.gc_model.specs.State.{State}
use Rattle.gc_model.specs.Runs.{IsStep}
use Rattle.gc_model.specs.Steps.{scan_done, first_log}
use Rattle.gc_model.specs.declared.step.Step.{Step}
use Rattle.gc_model.specs.declared.step.Step.TheVariants.{Scan, Apply, Flip}
use Rattle.gc_copy.specs.Words.{CollectionWords, collection_in, state_of, BelongsTo}
use Rattle.gc_collected.specs.Internal.CollectedHeap.{Fits}

first_is_one : (logs : List (List (ℕ × ℕ))) (k m : ℕ) → first_log k logs ≡ Some m → m < k + length logs
first_is_one [] k m h = absurd cc
first_is_one ([] ∷ logs) k m h = let r = first_is_one logs (k + 1) m h in omega arith
first_is_one ((entry ∷ log) ∷ logs) k m h = let e : k ≡ m = cc h in omega arith

-- for a collection that belongs to the heap
log_is_one : (heap : HeapWords) (c : CollectionWords) (m : ℕ) → BelongsTo heap c → first_log 0 (collection_in c).logs ≡ Some m → m < heap.mutators
log_is_one heap c m belongs e = grind (arith, common_steps, first_is_one, length-map)

applied_or_flipped : (mutators : ℕ) (o : Option ℕ) → ((k : ℕ) → o ≡ Some k → k < mutators) → IsStep mutators (option_map_or Apply o Flip)
applied_or_flipped mutators o one = grind (arith, common_steps)

-- the useful step is a step of the heap
pub step_is_one : (epoch : ℕ) (heap : HeapWords) (o : Option CollectionWords) (c : CollectionWords) (now : State) (step : Step) → state_of heap (option_map collection_in o) ≡ now → o ≡ Some c → Fits epoch heap o
    → step ≡ (if not (scan_done (collection_in c)) then Scan else option_map_or Apply (first_log 0 (collection_in c).logs) Flip) → IsStep now.mutators step
step_is_one epoch heap o c now step view is fits told =
    subst (λ (s : State). IsStep s.mutators step) view (subst (IsStep heap.mutators) (sym told) (cond_both (not (scan_done (collection_in c))) _ _ (IsStep heap.mutators) (λ t. tt)
    (λ t. applied_or_flipped heap.mutators (first_log 0 (collection_in c).logs) (λ k e. log_is_one heap c k (subst (Fits epoch heap) is fits) e))))
