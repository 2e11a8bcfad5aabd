-- In a run whose opening and begins are within a limit, so are the sizes of all spaces.
use Rattle.std.proofs.lemmas.Grind.{common_steps}
use Rattle.std.proofs.Common.{ℕ, ◌≤◌, List, [], ◌∷◌, Option, is_some, arith}
use Rattle.std.specs.Prelude.{IfSome}
use Rattle.std.proofs.lemmas.Bool.{cond_both}
use Rattle.std.proofs.lemmas.List.{length-map, length-replicate}
use Rattle.gc_graph.specs.Graph.{Value, Nil, Graph, lookup, field_of}
use Rattle.gc_graph.specs.Slots.{roots_of}
use Rattle.gc_model.specs.State.{Collection, State, opening_state, replica_of, moved}
use Rattle.gc_model.proofs.RootsStay.{roots_counted}
use Rattle.gc_model.specs.Steps.{bring_value, apply_entry, is_ready, passes_check, flip}
use Rattle.gc_model.specs.Runs.{IsStepWithin, IsEventWithin, AreEventsWithin, IsStep, IsEvent, AreEvents, HasSizesWithin, after, state_after}
use Rattle.gc_model.specs.declared.event.Event.{Event}
use Rattle.gc_model.specs.declared.step.Step.{Step}
use Rattle.gc_model.specs.declared.step.StepReply.{StepReply}

module _ (most : ℕ) where
  abbrev IsWithin : Option Collection → Type 0
  IsWithin o = IfSome o (λ c. c.size ≤ most)

  abbrev AreWithin : StepReply × State → Type 0
  AreWithin next = HasSizesWithin most next.1

  bring_within : (c : Collection) (g : Graph) (name i : ℕ) (o : Option Value) → c.size ≤ most → IsWithin (bring_value c g name i o)
  bring_within c g name i o h = grind (arith, common_steps, cond_both)

  entry_within : (c : Collection) (g : Graph) (entry : ℕ × ℕ) → c.size ≤ most → IsWithin (apply_entry c g entry)
  entry_within c g entry h = cond_both (is_some (replica_of c entry.0)) _ _ IsWithin (λ has. bring_within c g entry.0 entry.1 (field_of (lookup g.objects entry.0) entry.1) h) (λ none. h)

  -- ---- steps

  flip_within : (s : State) (c : Collection) → HasSizesWithin most s → c.size ≤ most → AreWithin (flip s c)
  flip_within s c h new =
      cond_both (is_ready c s.heap.graph) _ _ AreWithin
      (λ ready. cond_both (passes_check s c) _ _ AreWithin (λ passes. record { heap = new; roots = omega (arith, length-map s.heap.graph.roots (moved c), h.roots); collection = tt }) (λ fails. h))
      (λ early. h)

  -- ---- runs

  pub opening_within : (size mutators : ℕ) → size ≤ most → HasSizesWithin most (opening_state size mutators)
  opening_within size mutators h = record { heap = h; roots = omega (arith, length-replicate (roots_of mutators) Nil); collection = tt }

  pub event_within : (mutators : ℕ) (s : State) (event : Event) → HasSizesWithin most s → IsEventWithin most mutators event → HasSizesWithin most (after s event)
  event_within mutators s event h r = grind (arith, common_steps, roots_counted, cond_both, bring_within, entry_within, flip_within)

  events_within : (mutators : ℕ) (events : List Event) (s : State) → HasSizesWithin most s → AreEventsWithin most mutators events → HasSizesWithin most (state_after s events)
  events_within mutators [] s h r = h
  events_within mutators (event ∷ events) s h r = events_within mutators events (after s event) (event_within mutators s event h r.0) r.1

  pub run_within : (size mutators : ℕ) (events : List Event) → size ≤ most → AreEventsWithin most mutators events → HasSizesWithin most (state_after (opening_state size mutators) events)
  run_within size mutators events h r = events_within mutators events (opening_state size mutators) (opening_within size mutators h) r

  -- ---- wider limits

  pub wider_step : (mutators : ℕ) (step : Step) → most ≤ 4294967295 → IsStepWithin most mutators step → IsStep mutators step
  wider_step mutators step le r = grind (arith, common_steps)

  pub wider_event : (mutators : ℕ) (event : Event) → most ≤ 4294967295 → IsEventWithin most mutators event → IsEvent mutators event
  wider_event mutators event le r = grind (arith, common_steps, wider_step)

  pub wider_events : (mutators : ℕ) (events : List Event) → most ≤ 4294967295 → AreEventsWithin most mutators events → AreEvents mutators events
  wider_events mutators [] le r = tt
  wider_events mutators (event ∷ events) le r = (wider_event mutators event le r.0, wider_events mutators events le r.1)
