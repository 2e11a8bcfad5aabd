-- What the nodes so far refer to is visited, and no visit is deeper than the next node can lead to.
use Rattle.std.proofs.Common.{ℕ, suc, ◌<◌, ◌-◌, length}
use Rattle.gc_check.specs.Internal.Visits.{HoldsWalk, AreWithin, LeadsToVisits, visit_at}
use Rattle.gc_check.proofs.visits.visit_nodes.Given as goal

-- the nodes of the visits so far lead to visits, and no visit is deeper than these can lead to
abbrev pub invariant-loop-done : goal.invariant-loop-done
invariant-loop-done l = record {
  held : HoldsWalk l.starts l.visits;
  near : l.done < length l.visits.list.items → AreWithin l.visits.list.items (suc (visit_at l.visits.list.items l.done).depth);
  visited : (k some : ℕ) → k < l.done → k < length l.visits.list.items → LeadsToVisits l.starts l.visits.list.items k some;
}

abbrev pub decreases-loop-done : goal.decreases-loop-done
decreases-loop-done l = suc (length l.starts.words) - l.done
