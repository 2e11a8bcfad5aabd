-- The receipts of this seat so far stand, and the marks are at exactly their places and those of the earlier seats.
use Rattle.std.proofs.Common.{◌≡◌, ◌++◌, length, take}
use Rattle.gc_shared.specs.Closing.{AllStand, receipts_below, receipts_of}
use Rattle.gc_shared.specs.Internal.Marks.{IsMarked, floor_of}
use Rattle.gc_shared.proofs.closing.first_torn.Given as goal

abbrev pub invariant-loop-n : goal.invariant-loop-n
invariant-loop-n l = record {
  is : l.receipts ≡ receipts_of l.seats l.seat;
  len : length l.marks ≡ length l.history;
  low : l.low ≡ floor_of 0 (take l.n l.receipts);
  stand : AllStand l.history (receipts_below l.seats l.seat) 0 (take l.n l.receipts);
  marked : IsMarked l.marks ((receipts_below l.seats l.seat) ++ take l.n l.receipts);
}
