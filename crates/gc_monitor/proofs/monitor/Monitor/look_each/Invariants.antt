-- The fields before this one were compared, and nothing is lost.
use Rattle.std.proofs.Common.{◌-◌, IsFalse}
use Rattle.gc_monitor.specs.Internal.Runs.{LooksTo}
use Rattle.gc_monitor.proofs.monitor.Monitor.look_each.Given as goal

-- the fields before this one were compared
abbrev pub invariant-loop-i : goal.invariant-loop-i
invariant-loop-i l = IsFalse l.self.lost × LooksTo l.old l.new l.at l.first (l.i - l.first) l.fn.self l.self
