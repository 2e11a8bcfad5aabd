-- Vectors of 64-bit words in the fields of a raw object. A field is below 2^63, so it takes the low 63 bits of a word. Behind these fields come others with the top bits, 63 to a field.
use Rattle.std.specs.Prelude.{ℕ, ◌+◌, ◌-◌, ◌*◌, ◌/◌, ◌%◌, ◌^◌, ◌<◌, List, [], ◌∷◌, ◌++◌, length, slice_index, map, take, drop, slice_range}
use Rattle.std.specs.List.{AllByRecursion, flat_map, range_with_len}
use Rattle.std.specs.Int.{bit_at}
use Rattle.gc_bytes.specs.Text.{overwritten}

-- all of these are words of 64 bits
abbrev pub AreWords : List ℕ → Type 0
AreWords words = AllByRecursion (λ w. w < 2 ^ 64) words

-- the 63 bits of a word that a field takes
abbrev pub low_bits : ℕ → ℕ
low_bits w = w % 2 ^ 63

-- the one that it does not
abbrev pub top_bit : ℕ → ℕ
top_bit w = w / 2 ^ 63

-- the bits of a field, the lowest first
unfoldable pub bits_of : ℕ → List ℕ
bits_of field = map (bit_at field) (range_with_len 0 63)

-- the number with these bits, the lowest first
unfoldable pub bits_number : List ℕ → ℕ
bits_number [] = 0
bits_number (b ∷ rest) = b + 2 * bits_number rest

-- ---- from words to fields

-- the number of fields that so many bits take
abbrev pub tops_for : ℕ → ℕ
tops_for bits = (bits + 62) / 63

-- the fields with these bits
unfoldable pub fields_of_bits : List ℕ → List ℕ
fields_of_bits bits = map (λ j. bits_number (take 63 (drop (63 * j) bits))) (range_with_len 0 (tops_for (length bits)))

-- the fields of a vector with these words
abbrev pub vector_fields : List ℕ → List ℕ
vector_fields words = map low_bits words ++ fields_of_bits (map top_bit words)

-- ---- from fields to words

-- the number of words that so many fields have: of 64 fields, one has top bits
abbrev pub words_in : ℕ → ℕ
words_in fields = fields - (fields + 63) / 64

-- the top bits in these fields
unfoldable pub tops_of : List ℕ → List ℕ
tops_of fields = flat_map bits_of (drop (words_in (length fields)) fields)

-- word i of the vector with these fields
abbrev pub word_at : List ℕ → ℕ → ℕ
word_at fields i = low_bits (slice_index fields i) + 2 ^ 63 * slice_index (tops_of fields) i

-- all of them
unfoldable pub words_of : List ℕ → List ℕ
words_of fields = map (word_at fields) (range_with_len 0 (words_in (length fields)))

-- ---- words that are written over others

-- the fields with top bits that change where these words are written over those from word `at` on: from the field of the first bit to that of the last
abbrev pub changed_tops : List ℕ → ℕ → List ℕ → List ℕ
changed_tops fields at [] = []
changed_tops fields at (w ∷ rest) = slice_range (fields_of_bits (overwritten (tops_of fields) at (map top_bit (w ∷ rest)))) (at / 63) (tops_for (at + length (w ∷ rest)))

-- where the first of these is
abbrev pub first_top : List ℕ → ℕ → ℕ
first_top fields at = words_in (length fields) + at / 63

-- all fields afterwards
abbrev pub rewritten : List ℕ → ℕ → List ℕ → List ℕ
rewritten fields at words = overwritten (overwritten fields at (map low_bits words)) (first_top fields at) (changed_tops fields at words)
