-- The objects of the pairs before this one have met and, if the flag says so, are alike.
use Rattle.std.proofs.Common.{IsTrue}
use Rattle.gc_check.specs.Internal.Meetings.{MetTo, AlikeTo, HoldsFound}
use Rattle.gc_check.specs.Verdict.{pairs_of}
use Rattle.gc_check.proofs.meet.meet_reachable.Given as goal

-- the objects of the first pairs have met
abbrev pub invariant-loop-done : goal.invariant-loop-done
invariant-loop-done l = record {
  held : HoldsFound l.old l.new l.found;
  met : MetTo l.old l.new (pairs_of l.found.pairs.items) l.done;
  alike : IsTrue l.alike → AlikeTo l.old l.new (pairs_of l.found.pairs.items) l.done;
}
