-- A history with one more entry is a history, and leads to the state after it.
use Rattle.std.proofs.Common.{◌≡◌, ℕ, ◌≤◌, List, [], ◌∷◌, ◌++◌, refl, ap}
use Rattle.gc_graph.specs.Limits.{most_words}
use Rattle.gc_model.specs.State.{State, opening_state}
use Rattle.gc_model.specs.Runs.{IsEventWithin, AreEventsWithin, after, answer, answers}
use Rattle.gc_model.specs.Runs as runs
use Rattle.gc_world.specs.History.{unmarked, events_of, answers_of, state_after, IsUseful, UsefulFrom, IsHistory}
use Rattle.gc_world.specs.declared.entry.Entry.{Entry}

module _ (last : Entry) where
  pub state_more : (s : State) (entries : List Entry) → runs.state_after s (events_of (entries ++ last ∷ [])) ≡ after (runs.state_after s (events_of entries)) last.event
  state_more s [] = refl
  state_more s (entry ∷ entries) = state_more (after s entry.event) entries

  events_more : (mutators : ℕ) (entries : List Entry) → AreEventsWithin most_words mutators (events_of entries) → IsEventWithin most_words mutators last.event → AreEventsWithin most_words mutators (events_of (entries ++ last ∷ []))
  events_more mutators [] h r = (r, tt)
  events_more mutators (entry ∷ entries) h r = (h.0, events_more mutators entries h.1 r)

  run_more : (s : State) (entries : List Entry) → answers_of entries ≡ answers s (events_of entries) → unmarked last.answer ≡ answer (runs.state_after s (events_of entries)) last.event
      → answers_of (entries ++ last ∷ []) ≡ answers s (events_of (entries ++ last ∷ []))
  run_more s [] e a = ap (λ x. x ∷ []) a
  run_more s (entry ∷ entries) e a =
      let first : unmarked entry.answer ≡ answer s entry.event = cc in
      let rest : answers_of entries ≡ answers (after s entry.event) (events_of entries) = cc in
      let more : answers_of (entries ++ last ∷ []) ≡ answers (after s entry.event) (events_of (entries ++ last ∷ [])) = run_more (after s entry.event) entries rest a in
      λ i. first i ∷ more i

  useful_more : (s : State) (entries : List Entry) → UsefulFrom s entries → IsUseful (runs.state_after s (events_of entries)) last.event last.answer → UsefulFrom s (entries ++ last ∷ [])
  useful_more s [] h u = (u, tt)
  useful_more s (entry ∷ entries) h u = (h.0, useful_more (after s entry.event) entries h.1 u)

  pub history_more : (size mutators : ℕ) (entries : List Entry) → IsHistory size mutators entries → IsEventWithin most_words mutators last.event
      → unmarked last.answer ≡ answer (state_after size mutators entries) last.event → IsUseful (state_after size mutators entries) last.event last.answer
      → IsHistory size mutators (entries ++ last ∷ [])
  history_more size mutators entries h r a u = record {
    low = h.low;
    high = h.high;
    some = h.some;
    few = h.few;
    events = events_more mutators entries h.events r;
    run = run_more (opening_state size mutators) entries h.run a;
    useful = useful_more (opening_state size mutators) entries h.useful u;
  }

pub history_opens : (size mutators : ℕ) → 1 ≤ size → size ≤ 1048576 → 1 ≤ mutators → mutators ≤ 16 → IsHistory size mutators []
history_opens size mutators low high some few = record { low = low; high = high; some = some; few = few; events = tt; run = refl; useful = tt }
