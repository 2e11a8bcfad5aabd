-- What the node's words so far refer to is visited, and the earlier visits are still in their places.
use Rattle.std.proofs.Common.{suc}
use Rattle.gc_check.specs.Internal.Visits.{HoldsWalk, Continues, AreWithin, LeadsToVisits, visit_at}
use Rattle.gc_check.proofs.visits.visit_references.Given as goal

-- what the words so far refer to is visited
abbrev pub invariant-loop-i : goal.invariant-loop-i
invariant-loop-i l = record {
  held : HoldsWalk l.starts l.visits;
  continues : Continues l.initial.visits.list.items l.visits.list.items;
  near : AreWithin l.visits.list.items (suc (visit_at l.initial.visits.list.items l.from).depth);
  visited : LeadsToVisits l.starts l.visits.list.items l.from l.i;
}
