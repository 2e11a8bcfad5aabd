-- Those before this place are counted.
use Rattle.std.proofs.Common.{◌≡◌, ◌≤◌, ◌+◌, ◌-◌}
use Rattle.gc_monitor.specs.Internal.Rows.{dues_from}
use Rattle.gc_monitor.proofs.code_row.CodeRow.count_each.Given as goal

abbrev pub invariant-loop-k : goal.invariant-loop-k
invariant-loop-k l = (l.dues + dues_from l.self.codes (l.first + l.k) (l.count - l.k) ≡ dues_from l.self.codes l.first l.count) × (l.dues ≤ l.k)
