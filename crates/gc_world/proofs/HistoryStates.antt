-- Facts about the state that a history leads to, and about its answers.
use Rattle.std.proofs.lemmas.Grind.{common_steps}
use Rattle.std.proofs.Common.{◌≡◌, ◌≢◌, ℕ, List, [], ◌∷◌, refl, sym, ◌∙◌, ◌≤◌, arith}
use Rattle.std.specs.List.{All}
use Rattle.std.proofs.lemmas.List.Elements.{All-nil, All-cons}
use Rattle.gc_graph.specs.Limits.{most_words}
use Rattle.gc_model.specs.State.{State, opening_state}
use Rattle.gc_model.specs.Belonging.{IsState}
use Rattle.gc_model.specs.Runs.{AreEvents, HasSizesWithin, after, answer, answers}
use Rattle.gc_model.specs.declared.event.Event.{Event}
use Rattle.gc_model.specs.declared.event.Answer.TheVariants.{Collector}
use Rattle.gc_model.specs.Carried.{OnlyLiveIsPaired, base_of_run}
use Rattle.gc_model.specs.declared.step.StepReply.TheVariants.{Refused}
use Rattle.gc_model.proofs.Public.{Reached, opening_ok, event_keeps, run_keeps, run_within, wider_events, never_refused, carries_only_live}
use Rattle.gc_world.specs.History.{unmarked, events_of, answers_of, state_after, IsHistory}
use Rattle.gc_world.specs.declared.entry.Entry.{Entry}

module _ (size mutators : ℕ) (entries : List Entry) (h : IsHistory size mutators entries) where
  opens : Reached mutators (opening_state size mutators)
  opens = let high : size ≤ 1048576 = h.high in record { ok = opening_ok size mutators h.low (omega arith); count = refl }

  are_events : AreEvents mutators (events_of entries)
  are_events = wider_events most_words mutators (events_of entries) (omega arith) h.events

  pub reached : Reached mutators (state_after size mutators entries)
  reached = run_keeps mutators (events_of entries) (opening_state size mutators) opens are_events

  pub sizes_within : HasSizesWithin most_words (state_after size mutators entries)
  sizes_within = run_within most_words size mutators (events_of entries) h.high h.events

-- ---- no answer is `Refused`

not_refused : (s : State) (event : Event) → IsState s → answer s event ≢ Collector Refused
not_refused s event ok e = grind (arith, common_steps, never_refused)

none_from : (mutators : ℕ) (entries : List Entry) (s : State) → Reached mutators s → AreEvents mutators (events_of entries) → answers_of entries ≡ answers s (events_of entries)
    → All (λ (entry : Entry). unmarked entry.answer ≢ Collector Refused) entries
none_from mutators [] s h r e = All-nil _
none_from mutators (entry ∷ entries) s h r e =
    let first : unmarked entry.answer ≡ answer s entry.event = cc in
    let rest : answers_of entries ≡ answers (after s entry.event) (events_of entries) = cc in
    All-cons (λ (entry : Entry). unmarked entry.answer ≢ Collector Refused) entry entries
    (λ is. not_refused s entry.event h.ok (sym first ∙ is))
    (none_from mutators entries (after s entry.event) (event_keeps mutators s entry.event h r.0) r.1 rest)

pub none_refused : (size mutators : ℕ) (entries : List Entry) → IsHistory size mutators entries → All (λ (entry : Entry). unmarked entry.answer ≢ Collector Refused) entries
none_refused size mutators entries h = none_from mutators entries (opening_state size mutators) (opens size mutators entries h) (are_events size mutators entries h) h.run

-- ---- only what was reachable or made later is copied

pub only_kept : (size mutators : ℕ) (entries : List Entry) → IsHistory size mutators entries
    → (let opening = opening_state size mutators in OnlyLiveIsPaired (base_of_run opening opening (events_of entries)) (state_after size mutators entries).collection)
only_kept size mutators entries h = grind (arith, common_steps, carries_only_live, are_events)
