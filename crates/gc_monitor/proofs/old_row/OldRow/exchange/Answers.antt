-- The row that is taken has no epochs, so each of its codes stands for itself.
use Rattle.std.proofs.Common.{◌∙◌, ap}
use Rattle.gc_monitor.specs.Internal.InWords.{Codes, codes_now}
use Rattle.gc_monitor.proofs.Freed.{now_first}
use Rattle.gc_monitor.proofs.old_row.OldRow.exchange.Goals as goal

pub returns-clause-codes : goal.returns-clause-codes
returns-clause-codes c = ap (λ epochs. codes_now epochs 0 0 c.swap.new.x.codes) c.clear.ensures.items ∙ now_first 0 c.swap.new.x.codes ∙ ap (λ (t : Codes). t.codes) c.swap.ensures.x_after
