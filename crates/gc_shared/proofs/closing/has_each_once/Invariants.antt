-- There are as many seats as numbers, and each number before this one is that of one seat.
use Rattle.std.proofs.Common.{◌≡◌, length}
use Rattle.gc_shared.specs.Internal.Marks.{HasEachOnce}
use Rattle.gc_shared.proofs.closing.has_each_once.Given as goal

abbrev pub invariant-loop-number : goal.invariant-loop-number
invariant-loop-number l = (length l.seats ≡ l.count) × HasEachOnce l.seats l.number
