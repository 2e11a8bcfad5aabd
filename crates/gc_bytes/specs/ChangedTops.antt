-- How fields with top bits are computed that change where words are written over some of a vector's own.
use Rattle.std.specs.Prelude.{ℕ, ◌+◌, ◌-◌, ◌*◌, ◌==◌, if◌then◌else◌, List, length, take, drop, map}
use Rattle.std.specs.List.{range_with_len}
use Rattle.gc_bytes.specs.Text.{overwritten}
use Rattle.gc_bytes.specs.Vector.{bits_number, bits_of, top_bit, tops_for}

-- a field with the top bits of these words from bit `at` on
abbrev pub patched_top : ℕ → ℕ → List ℕ → ℕ
patched_top field at words = bits_number (overwritten (bits_of field) at (map top_bit words))

-- field i of those that change. `first` and `last` are the first and the last one as they were; the first one keeps `skip` bits.
abbrev pub changed_top : ℕ → ℕ → ℕ → List ℕ → ℕ → ℕ
changed_top first last skip words i =
    patched_top (if i == 0 then first else last) (skip - 63 * i) (take (63 - (skip - 63 * i)) (drop (63 * i - skip) words))

-- all of them
unfoldable pub changed_tops_in : ℕ → ℕ → ℕ → List ℕ → List ℕ
changed_tops_in first last skip words = map (changed_top first last skip words) (range_with_len 0 (tops_for (skip + length words)))
