-- The codes before this place are what they stand for.
use Rattle.std.proofs.Common.{◌≡◌, ℕ, ◌<◌, ◌≤◌, length, get_or}
use Rattle.gc_monitor.specs.Internal.InWords.{code_now}
use Rattle.gc_monitor.proofs.old_row.settle.Given as goal

abbrev pub invariant-loop-place : goal.invariant-loop-place
invariant-loop-place l = record {
  len : length l.row.codes ≡ length l.fn.row.codes;
  room : l.fn.row.room ≤ l.row.room;
  before : (i : ℕ) → i < l.place → get_or l.row.codes i 0 ≡ code_now l.epochs l.epoch i (get_or l.fn.row.codes i 0);
  behind : (i : ℕ) → l.place ≤ i → get_or l.row.codes i 0 ≡ get_or l.fn.row.codes i 0;
}
