-- So many entries were applied, the last with this reply, and the monitor follows.
use Rattle.std.proofs.Common.{◌≡◌, ◌≤◌, ◌-◌}
use Rattle.gc_copy.specs.StepRuns.{IsApplyRun}
use Rattle.gc_copy.specs.Words.{open_state, BelongsTo}
use Rattle.gc_collected.specs.Internal.Follows.{Follows}
use Rattle.gc_collected.proofs.barrier.apply_run.Given as goal

-- so many entries were applied, and the last got this reply
abbrev pub invariant-loop-steps : goal.invariant-loop-steps
invariant-loop-steps l = IsApplyRun l.m l.until l.steps (open_state l.fn.heap l.fn.collection) (open_state l.heap l.collection) l.reply
    × (l.steps ≤ l.most)
    × BelongsTo l.heap l.collection
    × (l.heap.mutators ≡ l.fn.heap.mutators)
    × (Follows (open_state l.fn.heap l.fn.collection) l.fn.watch → Follows (open_state l.heap l.collection) l.watch)

abbrev pub decreases-loop-steps : goal.decreases-loop-steps
decreases-loop-steps l = l.most - l.steps
