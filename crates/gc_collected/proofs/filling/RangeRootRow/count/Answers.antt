-- A range has as many roots as it says.
use Rattle.std.proofs.Common.{sym}
use Rattle.gc_collected.proofs.NewFrom.{range_counted}
use Rattle.gc_collected.proofs.filling.RangeRootRow.count.Goals as goal

pub returns : goal.returns
returns c = sym (range_counted c.args.self.now.first c.args.self.now.count)
