-- There are as many logs as turns so far, and all of them are empty.
use Rattle.std.proofs.Common.{◌≡◌, map, replicate, []}
use Rattle.gc_copy.specs.Words.{entries_of}
use Rattle.gc_copy.proofs.collection.room.empty_logs.Given as goal

-- one empty log for each turn so far
abbrev pub invariant-loop : goal.invariant-loop
invariant-loop l = map entries_of l.logs.items ≡ replicate l.counter []
