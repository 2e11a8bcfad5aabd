-- No visit so far refers to the address.
use Rattle.gc_check.specs.Internal.Visits.{NoneRefers}
use Rattle.gc_check.proofs.visits.first_reference.Given as goal

-- the visits so far do not refer to the address
abbrev pub invariant-loop-number : goal.invariant-loop-number
invariant-loop-number l = NoneRefers l.starts l.visits l.number l.address
