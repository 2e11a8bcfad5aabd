-- The digits so far are written, and the others are those of what is left of the word.
use Rattle.std.proofs.Common.{◌≡◌, ◌-◌, ◌++◌, length, take}
use Rattle.gc_bytes.specs.Text.{digits}
use Rattle.gc_bytes.proofs.reading.write_digits.Given as goal

abbrev pub invariant-loop-k : goal.invariant-loop-k
invariant-loop-k l = take l.k l.out ++ digits (length l.out - l.k) l.rest ≡ digits (length l.out) l.word
