-- The digits from here on are a number.
use Rattle.std.proofs.Common.{◌≡◌, ◌≤◌, drop, length}
use Rattle.gc_bytes.specs.Text.{bytes_number}
use Rattle.gc_bytes.proofs.spelling.number_of.Given as goal

abbrev pub invariant-loop-k : goal.invariant-loop-k
invariant-loop-k l = record { value : l.number ≡ bytes_number (drop l.k l.digits); within : l.k ≤ length l.digits }

abbrev pub decreases-loop-k : goal.decreases-loop-k
decreases-loop-k l = l.k
