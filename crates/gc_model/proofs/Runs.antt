-- Every state that a run reaches is well formed.
use Rattle.std.proofs.lemmas.Grind.{common_steps}
use Rattle.std.proofs.Common.{◌≡◌, ℕ, ◌≤◌, List, [], ◌∷◌, refl, arith}
use Rattle.std.proofs.lemmas.Bool.{cond_both}
use Rattle.std.proofs.lemmas.List.{length-replicate}
use Rattle.gc_model.specs.State.{State, opening_state}
use Rattle.gc_model.specs.Runs.{IsEvent, AreEvents, IsRootEvent, AreRootEvents, after, state_after}
use Rattle.gc_model.specs.declared.event.Event.{Event}
use Rattle.gc_model.specs.Belonging.{IsState}
use Rattle.gc_model.proofs.Lists.{in_replicate}
use Rattle.gc_model.proofs.Steps.{collect_keeps, mutate_keeps, ranged}

-- a state that a run with this many mutators reaches
pub record Reached (mutators : ℕ) (s : State) : Type 0 where
  pub ok : IsState s
  pub count : s.mutators ≡ mutators

pub opening_ok : (size mutators : ℕ) → 1 ≤ size → size ≤ 4294967295 → IsState (opening_state size mutators)
opening_ok size mutators low high = grind (arith, common_steps, in_replicate, length-replicate)

-- an event of a heap without extra roots is one of a heap with them
root_event : (mutators : ℕ) (event : Event) → IsEvent mutators event → IsRootEvent mutators event
root_event mutators event r = grind (arith, common_steps, ranged)

pub root_events : (mutators : ℕ) (events : List Event) → AreEvents mutators events → AreRootEvents mutators events
root_events mutators [] r = tt
root_events mutators (event ∷ events) r = (root_event mutators event r.0, root_events mutators events r.1)

pub root_event_keeps : (mutators : ℕ) (s : State) (event : Event) → Reached mutators s → IsRootEvent mutators event → Reached mutators (after s event)
root_event_keeps mutators s event h r = grind (arith, common_steps, mutate_keeps, collect_keeps, cond_both)

pub event_keeps : (mutators : ℕ) (s : State) (event : Event) → Reached mutators s → IsEvent mutators event → Reached mutators (after s event)
event_keeps mutators s event h r = root_event_keeps mutators s event h (root_event mutators event r)

pub root_events_keep : (mutators : ℕ) (events : List Event) (s : State) → Reached mutators s → AreRootEvents mutators events → Reached mutators (state_after s events)
root_events_keep mutators [] s h r = h
root_events_keep mutators (event ∷ events) s h r = root_events_keep mutators events (after s event) (root_event_keeps mutators s event h r.0) r.1

pub run_keeps : (mutators : ℕ) (events : List Event) (s : State) → Reached mutators s → AreEvents mutators events → Reached mutators (state_after s events)
run_keeps mutators [] s h r = h
run_keeps mutators (event ∷ events) s h r = run_keeps mutators events (after s event) (event_keeps mutators s event h r.0) r.1

pub run_ok : (size mutators : ℕ) (events : List Event) → 1 ≤ size → size ≤ 4294967295 → AreEvents mutators events → IsState (state_after (opening_state size mutators) events)
run_ok size mutators events low high r = (run_keeps mutators events (opening_state size mutators) (record { ok = opening_ok size mutators low high; count = refl }) r).ok
