-- The first fault of all pairs is the first from this pair on.
use Rattle.std.proofs.Common.{◌≡◌, drop}
use Rattle.gc_words.specs.Fault.{first_over_pairs, pair_fault, object_faults}
use Rattle.gc_check.proofs.checker.first_pair_fault.Given as goal

-- the first fault is in the rest of the pairs
abbrev pub invariant-loop-k : goal.invariant-loop-k
invariant-loop-k l = object_faults l.tables.old l.tables.new l.tables.pairs ≡ first_over_pairs (pair_fault l.tables.old l.tables.new l.tables.pairs) l.k (drop l.k l.tables.pairs)
