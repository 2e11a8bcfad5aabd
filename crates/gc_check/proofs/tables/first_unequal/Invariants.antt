-- The first words that are not equal are among those from this one on.
use Rattle.std.proofs.Common.{◌≡◌, ◌==◌, drop}
use Rattle.gc_words.specs.Fault.{first_difference}
use Rattle.gc_check.proofs.tables.first_unequal.Given as goal

-- the first difference is in the rest of the words
abbrev pub invariant-loop-i : goal.invariant-loop-i
invariant-loop-i l = first_difference (λ v w. v == w) 0 l.old l.new ≡ first_difference (λ v w. v == w) l.i (drop l.i l.old) (drop l.i l.new)
