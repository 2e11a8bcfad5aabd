-- Once all codes are written as what they stand for, no epoch is needed.
use Rattle.std.proofs.Common.{◌∙◌, ap}
use Rattle.gc_monitor.specs.Internal.InWords.{codes_now}
use Rattle.gc_monitor.proofs.Freed.{now_first}
use Rattle.gc_monitor.proofs.old_row.settle_all.Goals as goal

pub returns-clause-codes : goal.returns-clause-codes
returns-clause-codes c = ap (λ epochs. codes_now epochs 0 0 c.settle.new.row.codes) c.clear.ensures.items ∙ now_first 0 c.settle.new.row.codes ∙ c.settle.ensures.codes ∙ ap (λ epochs. codes_now epochs c.args.epoch.now 0 c.args.row.now.codes) c.deref.ensures.value
