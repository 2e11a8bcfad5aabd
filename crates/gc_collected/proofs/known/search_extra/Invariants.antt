-- The row is right after each look, and each look leaves one less, or two.
use Rattle.std.proofs.Common.{◌≤◌}
use Rattle.gc_copy.specs.Words.{open_state}
use Rattle.gc_roots.specs.Twins.{HasLookedOn, looks_left}
use Rattle.gc_collected.specs.Internal.KnownRoots.{ComparesTwins, KnowsRoots}
use Rattle.gc_collected.proofs.known.search_extra.Given as goal

abbrev pub invariant-loop-k : goal.invariant-loop-k
invariant-loop-k l = record {
  knows : KnowsRoots l.known (open_state l.heap l.collection);
  compares : ComparesTwins l.fn.known → ComparesTwins l.known;
  looked : HasLookedOn l.looks (looks_left l.fn.known.twins) (looks_left l.known.twins);
  within : l.looks ≤ l.most;
}

abbrev pub decreases-loop-k : goal.decreases-loop-k
decreases-loop-k l = looks_left l.known.twins
