-- The events that were read so far are those that were played, one for each line after the heading.
use Rattle.std.proofs.Common.{◌≡◌, ◌+◌, ◌-◌, ℕ, List, [], length, false}
use Rattle.gc_graph.specs.Streams.{bytes_left, source_failed}
use Rattle.std.specs.List.{AllByRecursion}
use Rattle.gc_model.specs.Belonging.{IsState}
use Rattle.gc_model.specs.declared.event.Event.{Event}
use Rattle.gc_trace.specs.Faults.{trace_limit}
use Rattle.gc_trace.specs.Grammar.{HasLine, IsOf}
use Rattle.gc_trace.specs.Internal.Playing.{HasPlayed}
use Rattle.gc_trace.specs.Internal.Reading.{IsReadingTrace, HasRead, read_so_far}
use Rattle.gc_trace.specs.Plays.{trace_opening}
use Rattle.gc_trace.proofs.playing.Player.take_all.Given as goal

abbrev pub invariant-loop-event : goal.invariant-loop-event
invariant-loop-event g l = (events : List Event) × record {
  played : HasPlayed (trace_opening (read_so_far l.initial.lines [])) events l.self;
  number : l.lines.lines.taken ≡ 2 + length events;
  read : (text : List ℕ) → HasRead text [] l.initial.lines (bytes_left g.R.Read.remaining l.initial.reader) → HasRead text events l.lines (bytes_left g.R.Read.remaining l.reader);
  reading : IsReadingTrace l.lines;
  all : AllByRecursion (λ event. HasLine l.lines.version event × IsOf l.lines.mutators event) events;
  heading : read_so_far l.lines [] ≡ read_so_far l.initial.lines [];
  sound : IsState l.self.heap.core;
  mutators : l.self.heap.core.mutators ≡ l.lines.mutators;
  gather : l.self.gather ≡ l.initial.self.gather;
  good : source_failed l.reader ≡ false;
}

abbrev pub decreases-loop-event : goal.decreases-loop-event
decreases-loop-event g l = trace_limit + 1 - l.lines.lines.taken
