-- The sum so far is that of the logs before this one, and fits, because each has fewer than 2^64 entries.
use Rattle.std.proofs.Common.{◌≡◌, ◌≤◌, ◌+◌, ◌*◌, ◌^◌}
use Rattle.gc_model.specs.Progress.{entries_left}
use Rattle.gc_pace.proofs.Logged.{entries_from}
use Rattle.gc_pace.proofs.counts.logged_in.Given as goal

-- the logs that were read have all entries but those of the others; a log's length is below 2^64
abbrev pub invariant-loop-m : goal.invariant-loop-m
invariant-loop-m l = (l.total + entries_from l.fn.heap.core l.m ≡ entries_left l.fn.heap.core) × (l.total ≤ l.m * 2 ^ 64)
