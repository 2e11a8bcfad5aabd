-- How words of a text are computed that change where bytes are written over some of its own.
use Rattle.std.specs.Prelude.{ℕ, ◌+◌, ◌-◌, ◌*◌, ◌/◌, ◌%◌, ◌^◌, ◌==◌, nat_le, if◌then◌else◌, List, length, take, drop, map}
use Rattle.std.specs.List.{range_with_len}
use Rattle.gc_bytes.specs.Text.{bytes_number}

-- the word with these bytes in its places from `at` on
abbrev pub patched_word : ℕ → ℕ → List ℕ → ℕ
patched_word word at bytes = word % 2 ^ (8 * at) + bytes_number bytes * 2 ^ (8 * at) + word / 2 ^ (8 * (at + length bytes)) * 2 ^ (8 * (at + length bytes))

-- word i of those that change. `first` and `last` are the first and the last one as they were; the first one keeps `skip` bytes.
abbrev pub changed_word : ℕ → ℕ → ℕ → List ℕ → ℕ → ℕ
changed_word first last skip bytes i =
    if i == 0 then patched_word first skip (take (7 - skip) bytes)
    else (let rest = drop (7 * i - skip) bytes in if nat_le (length rest) 7 then patched_word last 0 rest else bytes_number (take 7 rest))

-- the number of words that change
abbrev pub changed_count : ℕ → List ℕ → ℕ
changed_count skip bytes = (skip + length bytes + 6) / 7

-- all of them
unfoldable pub changed_in : ℕ → ℕ → ℕ → List ℕ → List ℕ
changed_in first last skip bytes = map (changed_word first last skip bytes) (range_with_len 0 (changed_count skip bytes))
