-- A turn makes the walk one replica longer, or loses the checker.
use Rattle.std.proofs.Common.{suc, IsFalse}
use Rattle.gc_monitor.proofs.Runs.{longer_placed}
use Rattle.gc_monitor.proofs.monitor.Monitor.placed_all.Goals as goal

pub loop-self-preserved : goal.loop-self-preserved
loop-self-preserved c =
    let found : IsFalse c.place_next.new.self.lost = c.place_next.ensures.found c.if-not-place_next.false in
    let run = c.loop-self.invariant.1 in (
      found,
      (
        suc run.0,
        longer_placed c.args.old.now c.args.new.now run.0 c.args.self.now c.loop-self.self c.place_next.new.self run.1 (c.place_next.ensures.placed found) (c.place_next.ensures.copied found),
      ),
    )
