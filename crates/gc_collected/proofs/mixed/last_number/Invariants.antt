-- No field from here on, of so many, takes a number.
use Rattle.std.proofs.Common.{◌≡◌, ◌≤◌, None, take}
use Rattle.gc_collected.specs.Internal.Sources.{last_number_of}
use Rattle.gc_collected.proofs.mixed.last_number.Given as goal

abbrev pub invariant-loop-i : goal.invariant-loop-i
invariant-loop-i g l = record {
  last : last_number_of None (take l.i (g.R.SourceRow.sources l.fields)) ≡ last_number_of None (take l.fn.count (g.R.SourceRow.sources l.fields));
  low : l.i ≤ l.fn.count;
}

abbrev pub decreases-loop-i : goal.decreases-loop-i
decreases-loop-i g l = l.i
