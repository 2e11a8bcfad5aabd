-- The walk has gone on by some replicas, and nothing is lost.
use Rattle.std.proofs.Common.{ℕ, ◌-◌, length, IsFalse}
use Rattle.gc_monitor.specs.Runs.{PlacedRun}
use Rattle.gc_monitor.proofs.monitor.Monitor.placed_all.Given as goal

-- the walk has gone on by some replicas
abbrev pub invariant-loop-self : goal.invariant-loop-self
invariant-loop-self l = IsFalse l.self.lost × ((n : ℕ) × PlacedRun l.old l.new n l.fn.self l.self)

abbrev pub decreases-loop-self : goal.decreases-loop-self
decreases-loop-self l = length l.new - length l.self.news
