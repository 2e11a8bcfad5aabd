-- A row that starts anew has no epochs, so its code stands for itself.
use Rattle.std.proofs.Common.{◌∙◌, ap}
use Rattle.gc_monitor.specs.Internal.InWords.{codes_now}
use Rattle.gc_monitor.proofs.Freed.{now_first}
use Rattle.gc_monitor.proofs.old_row.OldRow.restart.Goals as goal

pub returns-clause-codes : goal.returns-clause-codes
returns-clause-codes c = ap (λ epochs. codes_now epochs 0 0 c.restart.new.self.codes) c.clear.ensures.items ∙ now_first 0 c.restart.new.self.codes ∙ c.restart.ensures.codes
