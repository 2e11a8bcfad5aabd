-- The starts counted so far and those from this place on are all starts, and there are no more than places.
use Rattle.std.proofs.Common.{◌≡◌, ◌+◌, ◌-◌, ◌≤◌, length}
use Rattle.gc_check.specs.Internal.Starts.{starts_from}
use Rattle.gc_check.proofs.starts.Starts.count.Given as goal

-- the objects from this place on are still to be counted
abbrev pub invariant-loop-place : goal.invariant-loop-place
invariant-loop-place l = record {
  few : l.count ≤ l.place;
  rest : l.count + starts_from l.self.words l.place (length l.self.words - l.place) ≡ starts_from l.self.words 0 (length l.self.words);
}
