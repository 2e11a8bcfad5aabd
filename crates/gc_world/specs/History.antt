-- Histories: events with their answers.
use Rattle.std.specs.Prelude.{◌≡◌, ℕ, ◌≤◌, List, [], ◌∷◌, map, ⊤}
use Rattle.std.specs.List.{flat_map}
use Rattle.gc_graph.specs.Limits.{most_words, most_mutators}
use Rattle.gc_graph.specs.Legal.{Told}
use Rattle.gc_model.specs.State.{State, opening_state}
use Rattle.gc_model.specs.Steps.{useful_step}
use Rattle.gc_model.specs.Runs as runs
use Rattle.gc_model.specs.declared.event.Event.{Event}
use Rattle.gc_model.specs.declared.event.Event.TheVariants.{Mutate, Collect}
use Rattle.gc_model.specs.declared.event.Answer.{Answer}
use Rattle.gc_model.specs.declared.event.Answer.TheVariants.{Mutator, Collector, Useful}
use Rattle.gc_world.specs.declared.entry.Entry.{Entry}

-- ---- events and answers

abbrev pub events_of : List Entry → List Event
events_of entries = map (λ entry. entry.event) entries

-- the same answer without the mark `Useful`, which a run does not set
abbrev pub unmarked : Answer → Answer
unmarked (Useful reply) = Collector reply
unmarked answer = answer

abbrev pub answers_of : List Entry → List Answer
answers_of entries = map (λ entry. unmarked entry.answer) entries

-- the state that a history leads to from an empty heap of this many words and mutators
abbrev pub state_after : ℕ → ℕ → List Entry → State
state_after size mutators entries = runs.state_after (opening_state size mutators) (events_of entries)

-- ---- the useful step

-- a step whose answer is marked `Useful` is the useful step
abbrev pub IsUseful : State → Event → Answer → Type 0
IsUseful s (Collect step) (Useful reply) = step ≡ useful_step s
IsUseful s event answer = ⊤

abbrev pub UsefulFrom : State → List Entry → Type 0
UsefulFrom s [] = ⊤
UsefulFrom s (entry ∷ rest) = IsUseful s entry.event entry.answer × UsefulFrom (runs.after s entry.event) rest

-- ---- histories

-- the history of a world that was opened with this many words and mutators
pub record IsHistory (size mutators : ℕ) (entries : List Entry) : Type 0 where
  pub low : 1 ≤ size
  pub high : size ≤ most_words
  pub some : 1 ≤ mutators
  pub few : mutators ≤ most_mutators
  pub events : runs.AreEventsWithin most_words mutators (events_of entries)
  -- the answers are those that the core gives to the events
  pub run : answers_of entries ≡ runs.answers (opening_state size mutators) (events_of entries)
  pub useful : UsefulFrom (opening_state size mutators) entries

-- ---- the replies that mutators got

abbrev pub told_by : Event → Answer → List Told
told_by (Mutate m op) (Mutator reply) = record { m = m; op = op; reply = reply } ∷ []
told_by event answer = []

abbrev pub told_of : List Entry → List Told
told_of entries = flat_map (λ entry. told_by entry.event entry.answer) entries
