-- While it waits, what was handed over stays the same.
use Rattle.std.proofs.Common.{◌≡◌}
use Rattle.gc_concurrent.proofs.handshake.Waiting.wait.Given as goal

abbrev pub invariant-loop : goal.invariant-loop
invariant-loop g l = l.waiting.seat.me.0.goer.left ≡ l.fn.self.seat.me.0.goer.left
