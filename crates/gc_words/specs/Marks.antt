-- A mark for each place, as bits of words.
use Rattle.std.specs.Prelude.{ℕ, ◌/◌, ◌%◌, ◌==◌, Bool, List, slice_index}
use Rattle.std.specs.Int.{bit_at}

-- the mark is a bit, 64 in a word
unfoldable pub is_marked : List ℕ → ℕ → Bool
is_marked bits place = bit_at (slice_index bits (place / 64)) (place % 64) == 1
