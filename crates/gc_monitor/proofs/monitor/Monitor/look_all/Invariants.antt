-- The looks went on to this field, and nothing is lost.
use Rattle.std.proofs.Common.{ℕ, ◌+◌, ◌-◌, ◌*◌, IsFalse}
use Rattle.gc_monitor.specs.Runs.{LookRun}
use Rattle.gc_monitor.proofs.monitor.Monitor.look_all.Given as goal

-- the looks went on to this field
abbrev pub invariant-loop-place : goal.invariant-loop-place
invariant-loop-place l = IsFalse l.self.lost × ((n : ℕ) × LookRun l.old l.new l.to l.end n l.at l.i l.fn.self l.place l.field l.self)

abbrev pub decreases-loop-place : goal.decreases-loop-place
decreases-loop-place l = (l.to - l.place) * 65536 + (65536 - l.field)
