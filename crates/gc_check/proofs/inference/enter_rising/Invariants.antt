-- The pairs so far and those of the entries to come are all pairs in order, and there is room for them.
use Rattle.std.proofs.Common.{◌≡◌, ◌≤◌, ◌+◌, ◌*◌, ◌++◌, drop, length, vec_capacity}
use Rattle.gc_check.specs.Internal.Meetings.{risen, taken_in}
use Rattle.gc_check.specs.Internal.Tables.{by_address}
use Rattle.gc_check.specs.Verdict.{pairs_of}
use Rattle.gc_check.proofs.inference.enter_rising.Given as goal

-- the other pairs are still to come, and there is room for them
abbrev pub invariant-loop-half : goal.invariant-loop-half
invariant-loop-half l = record {
  same : pairs_of l.pairs.items ++ risen (2 * l.half) (drop (2 * l.half) (by_address l.new.words l.originals)) ≡ risen 0 (by_address l.new.words l.originals);
  room : length l.pairs.items + taken_in (drop (2 * l.half) (by_address l.new.words l.originals)) ≤ vec_capacity l.pairs;
}
