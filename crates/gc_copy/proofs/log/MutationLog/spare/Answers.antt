-- There are no more full segments than segments, so the subtraction that counts the others cannot wrap.
use Rattle.std.proofs.Common.{arith}
use Rattle.gc_copy.proofs.Segments.{full_within}
use Rattle.gc_copy.proofs.log.MutationLog.spare.Goals as goal

pub overflow_sub-result-2 : goal.overflow_sub-result-2
overflow_sub-result-2 c = let l = c.self.inside in let w = full_within l.full l.segments.items c.self.invariant.shape in let ok = l.segments.ok in omega arith
