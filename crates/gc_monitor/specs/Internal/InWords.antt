-- How the rows of a standing checker stand in words.
use Rattle.std.specs.Prelude.{◌≡◌, ℕ, ◌+◌, ◌*◌, ◌/◌, ◌%◌, ◌^◌, ◌≤◌, ◌==◌, if◌then◌else◌, false, min, suc, List, [], ◌∷◌, length, map, slice_index, slice_index_or}
use Rattle.std.specs.List.{range_with_len}
use Rattle.gc_graph.specs.Limits.{largest_space}
use Rattle.gc_words.specs.Marks.{is_marked}

-- ---- codes, of two bits each

-- a code for each place, and for how many places there is room
pub record Codes : Type 0 where
  pub codes : List ℕ
  pub room : ℕ

-- The same for old places. For so many places each block of 256 can have an epoch of its own, and so many times all codes can be freed before
-- they are written.
pub record OldCodes : Type 0 where
  pub codes : List ℕ
  pub room : ℕ
  pub covered : ℕ
  pub left : ℕ

-- the code that has two bits of this word
abbrev pub code_in : ℕ → ℕ → ℕ
code_in word k = word / 2 ^ (2 * k) % 4

-- the code of a place, of which a word holds 32
unfoldable pub code_at : List ℕ → ℕ → ℕ
code_at words place = code_in (slice_index words (place / 32)) (place % 32)

-- the codes of the first places
unfoldable pub codes_in : List ℕ → ℕ → List ℕ
codes_in words len = map (code_at words) (range_with_len 0 len)

-- the places of so many words, as far as an address tells them
abbrev pub room_of : ℕ → ℕ
room_of words = min (32 * words) largest_space

-- there are as many words as the places take, or more, as far as an address tells their places, and all codes behind them are 0
pub record HasCodes (words : List ℕ) (len : ℕ) : Type 0 where
  pub count : (len + 31) / 32 ≤ length words
  pub few : length words ≤ 134217728
  pub rest : (place : ℕ) → len ≤ place → code_at words place ≡ 0

-- the code once its collection is given up: a taken start is a start again
abbrev pub freed : ℕ → ℕ
freed code = if code == 2 then 1 else code

-- the code of a place, if its block of 256 places counts in this epoch; else it is freed
abbrev pub code_now : List ℕ → ℕ → ℕ → ℕ → ℕ
code_now epochs epoch place code = if slice_index_or epochs (place / 256) 0 == epoch then code else freed code

-- the same for the codes from a place on
unfoldable pub codes_now : List ℕ → ℕ → ℕ → List ℕ → List ℕ
codes_now epochs epoch place [] = []
codes_now epochs epoch place (code ∷ codes) = code_now epochs epoch place code ∷ codes_now epochs epoch (suc place) codes

-- ---- originals, of four bytes for two places

-- the original of the replica that starts at each place, or 0, and for how many places there is room
pub record Origins : Type 0 where
  pub origins : List ℕ
  pub room : ℕ

-- where a replica starts, which a mark tells, the entry of its half of an address
unfoldable pub origin_at : List ℕ → List ℕ → ℕ → ℕ
origin_at starts originals place = if is_marked starts place then slice_index originals (place / 2) else 0

-- the originals of the first places
unfoldable pub origins_in : List ℕ → List ℕ → ℕ → List ℕ
origins_in starts originals len = map (origin_at starts originals) (range_with_len 0 len)

-- the places of so many words of bits and of so many originals, as far as an address tells them
abbrev pub room_for : ℕ → ℕ → ℕ
room_for words originals = min (64 * min words (originals / 32)) largest_space

-- there are as many words of marks as the places take, with originals for all their bits, and no replica starts at place 0, at the last place or behind it
pub record HasOrigins (starts originals : List ℕ) (len : ℕ) : Type 0 where
  pub bits : length starts ≡ (len + 63) / 64
  pub halves : length originals ≡ 32 * length starts
  pub first : is_marked starts 0 ≡ false
  pub rest : (place : ℕ) → len ≤ place + 1 → is_marked starts place ≡ false
