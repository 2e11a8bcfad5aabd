-- The seat has one receipt for each turn so far, all of useful steps, and its number has not changed.
use Rattle.std.proofs.Common.{◌≡◌, length, All}
use Rattle.gc_shared.specs.Scripts.{IsUsefulStep}
use Rattle.gc_shared.proofs.script.turn.Given as goal

abbrev pub invariant-loop-n : goal.invariant-loop-n
invariant-loop-n g l = record {
  same : l.seat.number ≡ l.fn.seat.number;
  count : length l.seat.receipts ≡ l.n;
  useful : All (λ r. IsUsefulStep r.entry.event r.entry.answer) l.seat.receipts;
}
