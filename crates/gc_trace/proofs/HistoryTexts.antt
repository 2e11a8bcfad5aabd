-- The text of a world's history is read as its events, which get the same answers.
use Rattle.std.proofs.lemmas.Grind.{common_steps}
use Rattle.std.proofs.Common.{◌≡◌, ℕ, ◌≤◌, List, [], ◌∷◌, sym, ap, ◌∙◌, arith}
use Rattle.std.specs.List.{AllByRecursion}
use Rattle.gc_model.specs.State.{State, opening_state}
use Rattle.gc_graph.specs.Limits.{most_words}
use Rattle.gc_model.specs.Runs as runs
use Rattle.gc_model.specs.declared.step.Step.{Step}
use Rattle.gc_world.specs.History.{events_of, answers_of, IsHistory}
use Rattle.gc_world.specs.World.{Past, present}
use Rattle.gc_model.specs.declared.event.Event.{Event}
use Rattle.gc_world.specs.declared.entry.Entry.{Entry}
use Rattle.gc_trace.specs.Grammar.{Recording, least_version, least_trace, trace_text, HasLine, IsOf, IsTraceText}
use Rattle.gc_trace.specs.Plays.{trace_opening, trace_answers, last_state}
use Rattle.gc_trace.specs.WorldRuns.{HasRun}
use Rattle.gc_trace.proofs.Versions.{least_range}

wider_step : (mutators : ℕ) (step : Step) → mutators ≤ 16 → runs.IsStepWithin most_words mutators step → runs.IsStepWithin most_words 16 step
wider_step mutators step le fits = grind (arith, common_steps)

-- an event that can happen with fewer mutators can happen with the most
wider : (mutators : ℕ) (event : Event) → mutators ≤ 16 → IsOf mutators event → IsOf 16 event
wider mutators event le of = grind (arith, common_steps, wider_step)

all_fit : (version mutators : ℕ) (entries : List Entry) → mutators ≤ 16 → least_version (events_of entries) ≤ version → runs.AreEventsWithin most_words mutators (events_of entries) → AllByRecursion (λ event. HasLine version event × IsOf mutators event) (events_of entries)
all_fit version mutators [] few known all = tt
all_fit version mutators (e ∷ es) few known all =
    ((record { range = wider mutators e.event few all.0; known = omega (arith, known) }, all.0), all_fit version mutators es few (omega (arith, known)) all.1)

pub history_has_text : (size mutators : ℕ) (entries : List Entry) → IsHistory size mutators entries → IsTraceText (least_trace size mutators (events_of entries)) (trace_text (least_trace size mutators (events_of entries)))
history_has_text size mutators entries history = grind (arith, common_steps, least_range, all_fit)

pub same_answers : (size mutators : ℕ) (entries : List Entry) → IsHistory size mutators entries → trace_answers (least_trace size mutators (events_of entries)) ≡ answers_of entries
same_answers size mutators entries history = sym history.run

-- ---- a world that has run a trace

ran_opening : (t : Recording) (past : Past) → HasRun t past → opening_state past.size past.mutators ≡ trace_opening t
ran_opening t past ran = ap (λ (size : ℕ). opening_state size past.mutators) ran.size ∙ ap (opening_state t.size) ran.mutators

pub ran_answers : (t : Recording) (past : Past) → HasRun t past → IsHistory past.size past.mutators past.entries → answers_of past.entries ≡ trace_answers t
ran_answers t past ran history = history.run ∙ ap (λ (s : State). runs.answers s (events_of past.entries)) (ran_opening t past ran) ∙ ap (runs.answers (trace_opening t)) ran.events

pub ran_state : (t : Recording) (past : Past) → HasRun t past → present past ≡ last_state t
ran_state t past ran = ap (λ (s : State). runs.state_after s (events_of past.entries)) (ran_opening t past ran) ∙ ap (runs.state_after (trace_opening t)) ran.events
