-- The places before this one are counted.
use Rattle.std.proofs.Common.{◌≡◌, ◌≤◌, ◌+◌, ◌-◌}
use Rattle.gc_monitor.specs.Internal.Rows.{dues_from}
use Rattle.gc_monitor.proofs.code_row.CodeRow.count_from.Given as goal

abbrev pub invariant-loop-from : goal.invariant-loop-from
invariant-loop-from l = record {
  low : l.first ≤ l.from;
  high : l.from ≤ l.first + l.count;
  counted : l.dues ≡ dues_from l.self.codes l.first (l.from - l.first);
  few : l.dues ≤ l.from - l.first;
}

abbrev pub decreases-loop-from : goal.decreases-loop-from
decreases-loop-from l = (l.first + l.count) - l.from
