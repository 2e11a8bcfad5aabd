-- From the first of the last places on, the places before this one have code 3, and all others what they had.
use Rattle.std.proofs.Common.{◌≡◌, ℕ, ◌-◌, ◌<◌, ◌≤◌, length, get_or}
use Rattle.gc_monitor.proofs.code_row.CodeRow.fill_words.Given as goal

abbrev pub invariant-loop-from : goal.invariant-loop-from
invariant-loop-from l = record {
  len : length l.self.codes ≡ length l.fn.self.codes;
  room : l.fn.self.room ≤ l.self.room;
  low : length l.fn.self.codes - l.places ≤ l.from;
  high : l.from ≤ length l.fn.self.codes;
  filled : (place : ℕ) → length l.fn.self.codes - l.places ≤ place → place < l.from → get_or l.self.codes place 0 ≡ 3;
  others : (place : ℕ) → place < length l.fn.self.codes - l.places → get_or l.self.codes place 0 ≡ get_or l.fn.self.codes place 0;
}

abbrev pub decreases-loop-from : goal.decreases-loop-from
decreases-loop-from l = length l.fn.self.codes - l.from
