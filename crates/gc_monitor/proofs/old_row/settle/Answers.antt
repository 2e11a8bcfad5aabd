-- Once all places are written, each code stands for itself.
use Rattle.std.proofs.Common.{arith}
use Rattle.gc_monitor.proofs.Freed.{settled}
use Rattle.gc_monitor.proofs.old_row.settle.Goals as goal

pub returns-clause-codes : goal.returns-clause-codes
returns-clause-codes c = settled c.args.epochs.now c.args.epoch c.args.row.now.codes c.loop-place.row.codes c.loop-place.place c.loop-place.invariant.len (omega arith) c.loop-place.invariant.before
