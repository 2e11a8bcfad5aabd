-- The contents of an event reader.
use Rattle.std.specs.Prelude.{◌≡◌, ◌+◌, ◌≤◌, ℕ, List, Option}
use Rattle.gc_text.specs.Reading.{Place, IsAt}
use Rattle.gc_model.specs.declared.event.Event.{Event}
use Rattle.gc_trace.specs.Faults.{trace_limit, GoodBefore}
use Rattle.gc_trace.specs.Grammar.{Recording, IsHeading}
use Rattle.gc_trace.specs.declared.event_reader.EventReader.{EventReader}

-- the trace of these events, with the reader's heading
abbrev pub read_so_far : EventReader → List Event → Recording
read_so_far reader events = record { version = reader.version; size = reader.size; mutators = reader.mutators; events = events }

-- the heading is valid, and no more lines were taken than a text has bytes
pub record IsReadingTrace (reader : EventReader) : Type 0 where
  pub heading : IsHeading reader.version reader.size reader.mutators
  pub counted : reader.lines.taken ≤ trace_limit
  pub limit_is : reader.lines.limit ≡ trace_limit

-- the lines of these events were read from the text, and these bytes are left in the source
pub record HasRead (text : List ℕ) (events : List Event) (reader : EventReader) (left : Option (List ℕ)) : Type 0 where
  pub place : Place
  pub at : IsAt text place reader.lines left
  pub good : GoodBefore text (place.taken + 1) (read_so_far reader events) place.rest
