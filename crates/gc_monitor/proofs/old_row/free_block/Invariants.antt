-- The codes of the words of the block before this one are freed.
use Rattle.std.proofs.Common.{◌≡◌, ◌⊎◌, ℕ, ◌+◌, ◌*◌, ◌/◌, ◌<◌, ◌≤◌, length, get_or}
use Rattle.gc_monitor.specs.Internal.InWords.{freed}
use Rattle.gc_monitor.proofs.old_row.free_block.Given as goal

abbrev pub invariant-loop-k : goal.invariant-loop-k
invariant-loop-k l = record {
  len : length l.row.codes ≡ length l.fn.row.codes;
  room : l.fn.row.room ≤ l.row.room;
  freed : (place : ℕ) → 8 * l.block ≤ place / 32 → place / 32 < 8 * l.block + l.k → get_or l.row.codes place 0 ≡ freed (get_or l.fn.row.codes place 0);
  others : (place : ℕ) → (place / 32 < 8 * l.block) ⊎ (8 * l.block + l.k ≤ place / 32) → get_or l.row.codes place 0 ≡ get_or l.fn.row.codes place 0;
}
