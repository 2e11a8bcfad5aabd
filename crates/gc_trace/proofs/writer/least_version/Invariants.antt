-- The larger of the version so far and that of the remaining entries is the least version of all.
use Rattle.std.proofs.Common.{◌≡◌, ◌≤◌, max}
use Rattle.gc_trace.specs.Grammar.{least_version}
use Rattle.gc_world.specs.History.{events_of}
use Rattle.gc_trace.proofs.Versions.{least_from}
use Rattle.gc_trace.proofs.writer.least_version.Given as goal

abbrev pub invariant-loop-entry : goal.invariant-loop-entry
invariant-loop-entry l = record {
  some : 1 ≤ l.version;
  whole : max l.version (least_from l.history l.entry-index) ≡ least_version (events_of l.history);
}
