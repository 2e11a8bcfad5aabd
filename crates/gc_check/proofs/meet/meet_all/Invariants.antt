-- Meeting the words from here on finds what meeting all finds, and decides whether all are alike.
use Rattle.std.proofs.Common.{◌≡◌, drop, IsTrue}
use Rattle.gc_check.specs.Internal.Meetings.{met_all, alike_all, HoldsFound}
use Rattle.gc_check.specs.Verdict.{pairs_of}
use Rattle.gc_check.proofs.meet.meet_all.Given as goal

-- the rest of the words are still to meet
abbrev pub invariant-loop-i : goal.invariant-loop-i
invariant-loop-i l = record {
  held : HoldsFound l.old l.new l.found;
  same : met_all l.old l.new (pairs_of l.initial.found.pairs.items) l.originals l.replicas ≡ met_all l.old l.new (pairs_of l.found.pairs.items) (drop l.i l.originals) (drop l.i l.replicas);
  alike : IsTrue l.alike → alike_all l.old l.new (pairs_of l.initial.found.pairs.items) l.originals l.replicas ≡ alike_all l.old l.new (pairs_of l.found.pairs.items) (drop l.i l.originals) (drop l.i l.replicas);
}
