-- The report so far is that of the answers before this entry.
use Rattle.std.proofs.Common.{◌≡◌, take}
use Rattle.gc_world.specs.History.{answers_of}
use Rattle.gc_world.specs.World.{present}
use Rattle.gc_trace.specs.Report.{report_of}
use Rattle.gc_trace.proofs.report.report_of.Given as goal

abbrev pub invariant-loop-entry : goal.invariant-loop-entry
invariant-loop-entry l = l.report ≡ report_of (answers_of (take l.entry-index l.entry-items)) (present l.world)
