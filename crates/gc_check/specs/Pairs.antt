-- The pairs of a certificate by their numbers.
use Rattle.std.specs.Prelude.{ℕ, List, slice_index_or}

-- pair k
abbrev pub pair_at : List (ℕ × ℕ) → ℕ → ℕ × ℕ
pair_at pairs k = slice_index_or pairs k (0, 0)
