-- The events so far are those read from the text, each with a line of the version, and the reader has not failed.
use Rattle.std.proofs.Common.{◌≡◌, ◌+◌, ◌-◌, ℕ, List, Some, false}
use Rattle.std.specs.List.{AllByRecursion}
use Rattle.gc_graph.specs.Streams.{bytes_left, source_failed}
use Rattle.gc_trace.specs.Grammar.{HasLine, IsOf}
use Rattle.gc_trace.specs.Faults.{trace_limit}
use Rattle.gc_trace.specs.Internal.Reading.{IsReadingTrace, HasRead}
use Rattle.gc_trace.proofs.reader.read_trace.Given as goal

abbrev pub invariant-loop-events : goal.invariant-loop-events
invariant-loop-events g l = record {
  read : (text : List ℕ) → bytes_left g.R.Read.remaining l.fn.reader ≡ Some text → HasRead text l.events.items l.lines (bytes_left g.R.Read.remaining l.reader);
  reading : IsReadingTrace l.lines;
  all : AllByRecursion (λ event. HasLine l.lines.version event × IsOf l.lines.mutators event) l.events.items;
  good : source_failed l.reader ≡ false;
}

abbrev pub decreases-loop-events : goal.decreases-loop-events
decreases-loop-events g l = trace_limit + 1 - l.lines.lines.taken
