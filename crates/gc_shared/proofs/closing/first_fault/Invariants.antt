-- The receipts of the seats before this one stand, and the marks are at exactly their places.
use Rattle.std.proofs.Common.{◌≡◌, length}
use Rattle.gc_shared.specs.Closing.{SeatsStand, receipts_below}
use Rattle.gc_shared.specs.Internal.Marks.{IsMarked}
use Rattle.gc_shared.proofs.closing.first_fault.Given as goal

abbrev pub invariant-loop-seat : goal.invariant-loop-seat
invariant-loop-seat l = record {
  len : length l.marks ≡ length l.history;
  stand : SeatsStand l.history l.seats l.seat;
  marked : IsMarked l.marks (receipts_below l.seats l.seat);
}
