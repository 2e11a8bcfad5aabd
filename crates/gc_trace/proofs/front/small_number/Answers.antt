-- The second byte counts exactly if it is a digit, and the digits that count are the decimal of the number.
use Rattle.std.proofs.Common.{arith}
use Rattle.gc_trace.proofs.SmallNumbers.{small_digits}
use Rattle.gc_trace.proofs.front.small_number.Goals as goal

pub returns-clause-taken : goal.returns-clause-taken
returns-clause-taken c =
    let is = small_digits c.args.first c.args.second c.from-tens.result c.from-units.result c.from-two.result (omega arith) (omega arith) c.from-tens.ensures c.from-units.ensures (omega arith) c.from-two.ensures (omega arith) (omega arith) in
    (is.small, is.few, is.spelled)
