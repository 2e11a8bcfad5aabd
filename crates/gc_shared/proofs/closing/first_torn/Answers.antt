-- A receipt at a place that is not free is the first that does not stand, and any other is one more that stands.
use Rattle.std.proofs.lemmas.Grind.{common_steps}
use Rattle.std.proofs.Common.{length-set, ◌∙◌, take_all, arith}
use Rattle.gc_shared.specs.Closing.{receipts_below}
use Rattle.gc_shared.proofs.ReceiptMarks.{step, torn_here}
use Rattle.gc_shared.proofs.closing.first_torn.Goals as goal

pub returns-then-not-is_free : goal.returns-then-not-is_free
returns-then-not-is_free c = grind (arith, common_steps, torn_here)

pub loop-n-preserved : goal.loop-n-preserved
loop-n-preserved c =
    let inv = c.loop-n.invariant in
    let s = step c.args.history.now (receipts_below c.args.seats.now c.args.seat) c.receipts_with-receipts.result.now c.loop-n.marks c.loop-n.low c.loop-n.n c.index-receipts-n.result c.loop-n-test.true c.index-receipts-n.is inv.low inv.stand inv.marked (c.is_free.ensures.within c.if-not-is_free.false) (c.is_free.ensures.free.0 c.if-not-is_free.false) in
    record { is = inv.is; len = length-set _ _ _ ∙ inv.len; low = s.low; stand = s.stand; marked = s.marked }

pub returns : goal.returns
returns c = grind (arith, common_steps, take_all)
