-- The table has the partners of the pairs so far, and the first fault of an address is among the rest.
use Rattle.gc_check.proofs.PartnerRow.{Entered}
use Rattle.gc_check.proofs.partners.enter_pairs.Given as goal

abbrev pub invariant-loop-k : goal.invariant-loop-k
invariant-loop-k l = Entered l.old l.new l.cert l.partners l.last.0 l.k
