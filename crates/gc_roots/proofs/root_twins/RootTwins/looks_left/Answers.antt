-- The marks below the front are no more than the roots below it.
use Rattle.std.proofs.Common.{arith}
use Rattle.gc_roots.proofs.Counted.{marks_bounded}
use Rattle.gc_roots.proofs.root_twins.RootTwins.looks_left.Goals as goal

pub overflow_add-result : goal.overflow_add-result
overflow_add-result c = let row = c.self.inside in let few = marks_bounded row.due row.front in grind (arith, few, c.self.invariant, c.saturating_sub.ensures)

pub overflow_cast-result : goal.overflow_cast-result
overflow_cast-result c = let row = c.self.inside in let few = marks_bounded row.due row.front in grind (arith, few, c.self.invariant, c.saturating_sub.ensures)
