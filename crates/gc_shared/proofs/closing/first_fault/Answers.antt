-- If all receipts stand and no place of the history is without a mark, the receipts and the history agree.
use Rattle.std.proofs.Common.{◌≡◌, arith}
use Rattle.gc_shared.proofs.ReceiptMarks.{agrees}
use Rattle.gc_shared.proofs.closing.first_fault.Goals as goal

pub returns : goal.returns
returns c =
    let inv = c.loop-seat.invariant in
    let here : c.loop-seat.seat ≡ c.args.count = omega arith in
    agrees c.args.history.now c.args.seats.now c.args.count c.loop-seat.marks (rw here at inv.stand) (rw here at inv.marked) inv.len (omega arith)
