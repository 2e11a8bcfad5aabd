-- The collector's end begins anew.
use Rattle.std.proofs.Common.{arith}
use Rattle.gc_concurrent.proofs.Opening.{renews_at}
use Rattle.gc_concurrent.proofs.copier.restart.Goals as goal

pub compare_exchange-requires : goal.compare_exchange-requires
compare_exchange-requires c = (c.requires.cells, c.requires.some, renews_at _ _ _ _ c.args.size _ _ c.from.ensures c.from-2.ensures c.requires.copies c.requires.low (omega arith))
