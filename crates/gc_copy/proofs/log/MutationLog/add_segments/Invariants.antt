-- The entries have not changed, and there is at least as much room as before.
use Rattle.std.proofs.Common.{◌≡◌, ◌≤◌, ◌-◌}
use Rattle.gc_copy.proofs.log.MutationLog.add_segments.Given as goal

abbrev pub invariant-loop-self : goal.invariant-loop-self
invariant-loop-self l = (l.self.entries ≡ l.fn.self.entries) × (l.fn.self.spare ≤ l.self.spare)

abbrev pub decreases-loop-self : goal.decreases-loop-self
decreases-loop-self l = l.more - l.self.spare
