-- The entries are those of the full segments and of the last one, without those that are gone, and their number fits.
use Rattle.std.proofs.lemmas.Grind.{common_steps}
use Rattle.std.proofs.Common.{arith}
use Rattle.gc_copy.proofs.Segments.{bounded, counted}
use Rattle.gc_copy.proofs.log.MutationLog.len.Goals as goal

pub overflow_mul-result : goal.overflow_mul-result
overflow_mul-result c = let l = c.self.inside in let b = bounded _ l.full l.last l.gone c.self.invariant in omega arith

pub overflow_add-result : goal.overflow_add-result
overflow_add-result c = let l = c.self.inside in let b = bounded _ l.full l.last l.gone c.self.invariant in omega arith

pub returns : goal.returns
returns c = grind (arith, common_steps, counted)
