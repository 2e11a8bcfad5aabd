-- From the first place on, the places before this one have the new code, and all others what they had.
use Rattle.std.proofs.Common.{◌≡◌, ◌⊎◌, ℕ, ◌+◌, ◌-◌, ◌<◌, ◌≤◌, length, get_or}
use Rattle.gc_monitor.specs.Events.{code_of}
use Rattle.gc_monitor.proofs.code_row.CodeRow.set_from.Given as goal

abbrev pub invariant-loop-from : goal.invariant-loop-from
invariant-loop-from l = record {
  len : length l.self.codes ≡ length l.fn.self.codes;
  room : l.fn.self.room ≤ l.self.room;
  low : l.first ≤ l.from;
  high : l.from ≤ l.first + l.count;
  run : (place : ℕ) → l.first ≤ place → place < l.from → get_or l.self.codes place 0 ≡ code_of l.due;
  others : (place : ℕ) → (place < l.first) ⊎ (l.from ≤ place) → get_or l.self.codes place 0 ≡ get_or l.fn.self.codes place 0;
}

abbrev pub decreases-loop-from : goal.decreases-loop-from
decreases-loop-from l = (l.first + l.count) - l.from
