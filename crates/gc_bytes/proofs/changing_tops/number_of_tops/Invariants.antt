-- The top bits from here on are a number.
use Rattle.std.proofs.Common.{◌≡◌, ◌≤◌, drop, length, map}
use Rattle.gc_bytes.specs.Vector.{bits_number, top_bit}
use Rattle.gc_bytes.proofs.changing_tops.number_of_tops.Given as goal

abbrev pub invariant-loop-k : goal.invariant-loop-k
invariant-loop-k l = record { value : l.number ≡ bits_number (map top_bit (drop l.k l.words)); within : l.k ≤ length l.words }

abbrev pub decreases-loop-k : goal.decreases-loop-k
decreases-loop-k l = l.k
