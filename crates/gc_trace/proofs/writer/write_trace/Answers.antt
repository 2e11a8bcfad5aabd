-- Each entry's line follows those before it, so all of the text goes out, or a prefix of it if the writer fails.
use Rattle.std.proofs.Common.{ℕ, List}
use Rattle.gc_world.specs.declared.entry.Entry.{Entry}
use Rattle.gc_trace.specs.Grammar.{trace_heading, least_version}
use Rattle.gc_world.specs.History.{events_of}
use Rattle.gc_trace.proofs.PrintedLines.{line_sent, line_failed, lines_sent, entry_line, whole_text}
use Rattle.gc_trace.proofs.writer.write_trace.Goals as goal

abbrev first_lines : ℕ → ℕ → List Entry → List ℕ
first_lines size mutators history = trace_heading (least_version (events_of history)) size mutators

pub returns-in-Err-clause-err : goal.returns-in-Err-clause-err
returns-in-Err-clause-err g c =
    line_failed (first_lines c.args.size c.args.mutators c.args.history.now) entry_line _ _ _ c.args.history.now c.loop-entry.entry-index c.loop-entry.printer _ (whole_text c.args.size c.args.mutators c.args.history.now) c.loop-entry.invariant c.in-Err.ensures.err

pub loop-entry-preserved : goal.loop-entry-preserved
loop-entry-preserved g c =
    line_sent (first_lines c.args.size c.args.mutators c.args.history.now) entry_line _ _ _ c.args.history.now c.loop-entry.entry-index c.entry-item.result c.loop-entry.printer c.make_room.new.self _ c.loop-entry-test.true c.entry-item.is c.loop-entry.invariant c.in-Ok.ensures.ok (rw c.event.ensures at c.print_event.ensures)

pub returns-in-Ok-flush-clause-ok : goal.returns-in-Ok-flush-clause-ok
returns-in-Ok-flush-clause-ok g c =
    lines_sent (first_lines c.args.size c.args.mutators c.args.history.now) entry_line _ _ _ c.args.history.now c.loop-entry.entry-index c.loop-entry.printer _ (whole_text c.args.size c.args.mutators c.args.history.now) c.loop-entry-test.false c.loop-entry.invariant c.in-Ok-flush.ensures.ok

pub returns-in-Err-flush-clause-err : goal.returns-in-Err-flush-clause-err
returns-in-Err-flush-clause-err g c =
    line_failed (first_lines c.args.size c.args.mutators c.args.history.now) entry_line _ _ _ c.args.history.now c.loop-entry.entry-index c.loop-entry.printer _ (whole_text c.args.size c.args.mutators c.args.history.now) c.loop-entry.invariant c.in-Err-flush.ensures.err
