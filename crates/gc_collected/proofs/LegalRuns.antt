-- The replies of a run, event by event, compared with a graph that has no collector.
use Rattle.std.proofs.lemmas.Grind.{common_steps}
use Rattle.std.specs.Prelude.{IfSome}
use Rattle.std.specs.Option.{option_map_or}
use Rattle.std.proofs.Common.{◌≡◌, ◌≢◌, ◌⊎◌, inl, inr, ℕ, ◌<◌, ◌≤◌, nat_lt, List, [], ◌∷◌, Option, Some, None, refl, sym, subst, arith}
use Rattle.std.proofs.lemmas.Bool.{cond_both, ltb-true}
use Rattle.gc_graph.specs.Limits.{largest_space}
use Rattle.gc_graph.specs.Graph.{Graph, opening, fresh_name}
use Rattle.gc_graph.specs.Machine.{Roomy, step, words_taken, roomy_step, MakesObject}
use Rattle.gc_graph.specs.Legal.{IsLegalFrom, IsLegal}
use Rattle.gc_graph.specs.declared.command.Op.{Op}
use Rattle.gc_graph.specs.declared.reply.Reply.{Reply}
use Rattle.gc_graph.specs.declared.reply.Reply.TheVariants.{Full}
use Rattle.gc_graph.proofs.Public.{Matched, AlikeAfter, step_alike, matched_of, own_pairs, matched_itself, fresh_unused, joined, composed}
use Rattle.gc_model.specs.State.{Collection, State, opening_state, heap_end, pairs_of, new_graph}
use Rattle.gc_copy.specs.Opening.{opening_state_with}
use Rattle.gc_model.specs.Steps.{is_ready, passes_check, flip, collect, step_in, step_idle}
use Rattle.gc_model.specs.Belonging.{IsOpened, IsState}
use Rattle.gc_heap.specs.ExtraRoots.{opening_with}
use Rattle.gc_heap.specs.declared.options.HeapOptions.{HeapOptions}
use Rattle.gc_model.specs.Runs.{AreEvents, AreRootEvents, after}
use Rattle.gc_model.specs.declared.event.Event.{Event}
use Rattle.gc_model.specs.declared.event.Event.TheVariants.{Mutate, Collect}
use Rattle.gc_model.specs.declared.step.Step.{Step}
use Rattle.gc_model.specs.declared.step.Step.TheVariants as steps
use Rattle.gc_model.specs.declared.step.StepReply.{StepReply}
use Rattle.gc_model.proofs.Public.{steps_stay, ready_parts, corresponding_graphs, end_unused, Reached, opening_ok, root_events, root_event_keeps}
use Rattle.gc_copy.proofs.Public.{opening_with_ok}
use Rattle.gc_collected.specs.Replies.{told_in}

-- ---- after a step, no command can tell the graph from the one before

abbrev Follows : State → StepReply × State → Type 0
Follows s next = (pairs : List (ℕ × ℕ)) × Matched pairs s.heap.graph next.1.heap.graph

itself : (s : State) → (pairs : List (ℕ × ℕ)) × Matched pairs s.heap.graph s.heap.graph
itself s = (own_pairs s.heap.graph.objects, matched_itself s.heap.graph)

module _ (s : State) (ok : IsState s) where
  stays_follows : (step : Step) → step ≢ steps.Flip → Follows s (collect s step)
  stays_follows step other =
      subst (λ (t : State). (pairs : List (ℕ × ℕ)) × Matched pairs s.heap.graph t.heap.graph) (sym (steps_stay s step other)) (itself s)

  opened_flip : (c : Collection) → IsOpened s c → Follows s (flip s c)
  opened_flip c k =
      cond_both (is_ready c s.heap.graph) _ _ (Follows s)
      (λ ready. cond_both (passes_check s c) _ _ (Follows s)
      (λ t. (
        pairs_of c,
        matched_of (pairs_of c) s.heap.graph (new_graph c s.heap.graph.roots)
            (corresponding_graphs s.size s.heap.free s.heap.graph c ok.heap k.belongs k.size (ready_parts c s.heap.graph ready)),
      ))
      (λ t. itself s))
      (λ t. itself s)

  flip_follows : (o : Option Collection) → IfSome o (IsOpened s) → Follows s (option_map_or (λ (c : Collection). step_in s c steps.Flip) o (step_idle s steps.Flip))
  flip_follows None k = itself s
  flip_follows (Some c) k = opened_flip c k

  collect_follows : (step : Step) → Follows s (collect s step)
  collect_follows steps.Begin = stays_follows steps.Begin (λ e. cc e)
  collect_follows (steps.BeginSized size) = stays_follows (steps.BeginSized size) (λ e. cc e)
  collect_follows steps.Roots = stays_follows steps.Roots (λ e. cc e)
  collect_follows steps.Scan = stays_follows steps.Scan (λ e. cc e)
  collect_follows (steps.Apply m) = stays_follows (steps.Apply m) (λ e. cc e)
  collect_follows steps.Flip = flip_follows s.collection ok.collection
  collect_follows steps.Drop = stays_follows steps.Drop (λ e. cc e)

-- ---- a command gets the reply that it gets on the graph without a collector, or `Full`

full_makes : (op : Op) (free : ℕ) → free < words_taken op → MakesObject op
full_makes op free h = grind (arith, common_steps)

-- the reply and the next state, compared with the graph g: `Full` with nothing changed, or the same step
abbrev Beside : Graph → ℕ → Op → Reply × Roomy → Type 0
Beside g m op next =
    (MakesObject op × (next.0 ≡ Full) × ((pairs : List (ℕ × ℕ)) × Matched pairs g next.1.graph))
    ⊎ ((next.0 ≡ (step g m op (fresh_name g)).0) × ((pairs : List (ℕ × ℕ)) × Matched pairs (step g m op (fresh_name g)).1 next.1.graph))

one_command : (g : Graph) (s : State) (m : ℕ) (op : Op) (pairs : List (ℕ × ℕ)) → Matched pairs g s.heap.graph → IsState s → Beside g m op (roomy_step s.heap m op (heap_end s))
one_command g s m op pairs matched ok =
    cond_both (nat_lt s.heap.free (words_taken op)) _ _ (Beside g m op)
    (λ full. inl (full_makes op s.heap.free (ltb-true s.heap.free (words_taken op) full), refl, (pairs, matched)))
    (λ fits. (let a : AlikeAfter (step g m op (fresh_name g)) (step s.heap.graph m op (heap_end s))
    = step_alike pairs g s.heap.graph matched m op (fresh_name g) (heap_end s) (fresh_unused g) (end_unused s.size s.heap.free s.heap.graph ok.heap) in
    inr (sym a.0, (a.1, a.2))))

-- ---- runs

legal_event : (mutators : ℕ) (events : List Event) (event : Event) (s : State) (g : Graph) (pairs : List (ℕ × ℕ)) → IsState s → Matched pairs g s.heap.graph
    → ((next : Graph) (others : List (ℕ × ℕ)) → Matched others next (after s event).heap.graph → IsLegalFrom next (told_in (after s event) events))
    → IsLegalFrom g (told_in s (event ∷ events))
legal_event mutators events (Mutate m op) s g pairs ok matched rest = grind (arith, common_steps, one_command)
legal_event mutators events (Collect st) s g pairs ok matched rest =
    let follows : Follows s (collect s st) = collect_follows s ok st in
    rest g (joined pairs follows.0) (composed pairs follows.0 g s.heap.graph (collect s st).1.heap.graph matched follows.1)

legal_from : (mutators : ℕ) (events : List Event) (s : State) (g : Graph) (pairs : List (ℕ × ℕ)) → Reached mutators s → Matched pairs g s.heap.graph
    → AreRootEvents mutators events → IsLegalFrom g (told_in s events)
legal_from mutators [] s g pairs h matched r = tt
legal_from mutators (event ∷ events) s g pairs h matched r = grind (arith, common_steps, root_event_keeps, legal_event, legal_from mutators events)

pub run_is_legal : (size mutators : ℕ) (events : List Event) → 1 ≤ size → size ≤ largest_space → AreEvents mutators events → IsLegal mutators (told_in (opening_state size mutators) events)
run_is_legal size mutators events low high are =
    legal_from mutators events (opening_state size mutators) (opening mutators) (own_pairs (opening mutators).objects)
    (record { ok = opening_ok size mutators low high; count = refl }) (matched_itself (opening mutators)) (root_events mutators events are)

pub root_run_is_legal : (options : HeapOptions) (events : List Event) → 1 ≤ options.size → options.size ≤ largest_space → AreRootEvents options.mutators events
    → IsLegalFrom (opening_with options).graph (told_in (opening_state_with options) events)
root_run_is_legal options events low high are =
    legal_from options.mutators events (opening_state_with options) (opening_with options).graph (own_pairs (opening_with options).graph.objects)
    (record { ok = opening_with_ok options low high; count = refl }) (matched_itself (opening_with options).graph) are
