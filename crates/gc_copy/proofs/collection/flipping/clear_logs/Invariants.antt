-- The logs before this one are empty.
use Rattle.std.proofs.Common.{◌≡◌, [], length, map, replicate, take}
use Rattle.gc_copy.specs.Words.{entries_of}
use Rattle.gc_copy.proofs.collection.flipping.clear_logs.Given as goal

-- there are as many logs as before, and the first ones have no entries
abbrev pub invariant-loop-m : goal.invariant-loop-m
invariant-loop-m l = (length l.logs ≡ length l.fn.logs) × (map entries_of (take l.m l.logs) ≡ replicate l.m [])
