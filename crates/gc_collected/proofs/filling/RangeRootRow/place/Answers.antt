-- Root i of a range is i places behind the first.
use Rattle.std.proofs.Common.{◌<◌, arith}
use Rattle.gc_heap.specs.Places.{root_at}
use Rattle.gc_collected.proofs.NewFrom.{range_at, range_counted}
use Rattle.gc_collected.proofs.filling.RangeRootRow.place.Goals as goal
use Rattle.gc_collected.proofs.filling.RangeRootRow.place.Goals.{After-from}

inside : (c : After-from) → c.args.i < c.args.self.now.count
inside c = let counted = range_counted c.args.self.now.first c.args.self.now.count in omega (arith, counted, c.requires.inside)

pub overflow_add-result : goal.overflow_add-result
overflow_add-result c = let less = inside (goal.at.overflow_add-result c).After-from in omega (arith, less, c.from.ensures, c.requires.row.1.1)

pub returns-clause-place : goal.returns-clause-place
returns-clause-place c =
    let there = range_at c.args.self.now.first c.args.self.now.count c.args.i c.args.m (root_at 0) (inside (goal.at.returns-clause-place c).After-from) in
    omega (arith, there, c.from.ensures)

pub returns-clause-within : goal.returns-clause-within
returns-clause-within c = λ roots row. let less = inside (goal.at.returns-clause-within c).After-from in omega (arith, less, c.from.ensures, row.0)
