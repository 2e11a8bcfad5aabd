-- What was handed over is that with which the wait began.
use Rattle.std.proofs.Common.{subst}
use Rattle.gc_concurrent.specs.Holders.{heap_in, situation_in}
use Rattle.gc_concurrent.specs.Heaps.{GoesOnIn}
use Rattle.gc_concurrent.specs.Moves.{Situation, StaysOrFlips}
use Rattle.gc_concurrent.proofs.handshake.Waiting.wait.Goals as goal

pub returns-in-Ok : goal.returns-in-Ok
returns-in-Ok g c = record {
  heap = subst (λ (s : Situation). GoesOnIn s.heap (heap_in c.in-Ok.runner.commander)) c.loop.invariant c.in-Ok.ensures.heap;
  flips = subst (λ s. StaysOrFlips s (situation_in c.in-Ok.runner.commander)) c.loop.invariant c.in-Ok.ensures.flips;
}
