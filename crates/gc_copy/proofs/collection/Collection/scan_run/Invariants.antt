-- A run of scans was performed, and the collection belongs to the heap.
use Rattle.std.proofs.Common.{◌≡◌, ◌≤◌, ◌-◌}
use Rattle.gc_copy.specs.StepRuns.{IsScanRun}
use Rattle.gc_copy.specs.Words.{open_state, BelongsTo}
use Rattle.gc_copy.proofs.collection.Collection.scan_run.Given as goal

-- so many scans were performed, and the last got this reply
abbrev pub invariant-loop-run : goal.invariant-loop-run
invariant-loop-run l = IsScanRun l.until l.run.steps (open_state l.fn.heap l.fn.self) (open_state l.heap l.self) l.run.reply
    × (l.run.steps ≤ l.most)
    × BelongsTo l.heap l.self
    × (l.self.epoch ≡ l.fn.self.epoch)
    × (l.heap.mutators ≡ l.fn.heap.mutators)

abbrev pub decreases-loop-run : goal.decreases-loop-run
decreases-loop-run l = l.most - l.run.steps
