-- Running the scripts of a trace in threads.
use Rattle.std.specs.Prelude.{◌≡◌, ℕ, ◌<◌, List, length, All}
use Rattle.gc_shared.specs.Scripts.{IsUsefulStep, steps_of}
use Rattle.gc_trace.specs.Grammar.{Recording, trace_text, least_trace}
use Rattle.gc_model.specs.Runs.{commands_of}
use Rattle.gc_world.specs.History.{events_of, IsHistory}
use Rattle.gc_world.specs.declared.entry.Entry.{Entry}

-- A history of a world with the trace's size and number of mutators. Each mutator performed its commands of the
-- trace, in order. The collector performed this many steps, and the answer to each is marked `Useful`.
pub record IsThreadedRun (t : Recording) (turns : ℕ) (entries : List Entry) : Type 0 where
  pub history : IsHistory t.size t.mutators entries
  pub commands : (m : ℕ) → m < t.mutators → commands_of m (events_of entries) ≡ commands_of m t.events
  pub steps : length (steps_of entries) ≡ turns
  pub useful : All (λ entry. IsUsefulStep entry.event entry.answer) (steps_of entries)

-- the trace text of a history, with the size and the number of mutators of t
abbrev pub recorded : Recording → List Entry → List ℕ
recorded t entries = trace_text (least_trace t.size t.mutators (events_of entries))
