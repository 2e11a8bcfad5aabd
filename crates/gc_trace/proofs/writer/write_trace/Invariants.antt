-- What went out and what waits in the buffer are the heading and the lines of the entries so far.
use Rattle.gc_graph.specs.Streams.{bytes_written, HasSent}
use Rattle.gc_trace.specs.Grammar.{trace_heading, least_version}
use Rattle.gc_world.specs.History.{events_of}
use Rattle.gc_trace.proofs.PrintedLines.{lines_to, entry_line}
use Rattle.gc_trace.proofs.writer.write_trace.Given as goal

abbrev pub invariant-loop-entry : goal.invariant-loop-entry
invariant-loop-entry g l = HasSent (bytes_written g.W.Write.contents l.initial.writer) (bytes_written g.W.Write.contents l.writer) (lines_to (trace_heading (least_version (events_of l.history)) l.size l.mutators) entry_line l.history l.entry-index) l.printer
