-- Texts of bytes in the fields of a raw object: seven bytes to a word, the first one lowest. The last word also says how many it has.
use Rattle.std.specs.Prelude.{ℕ, zero, suc, ◌+◌, ◌*◌, ◌/◌, ◌%◌, ◌^◌, ◌<◌, ◌&&◌, nat_lt, nat_le, if◌then◌else◌, List, [], ◌∷◌, ◌++◌, length, get_or, take, drop, Option, Some, None, slice_range}
use Rattle.std.specs.List.{AllByRecursion, flat_map}
use Rattle.std.specs.Option.{option_map}

-- all of these are bytes
abbrev pub AreBytes : List ℕ → Type 0
AreBytes bytes = AllByRecursion (λ b. b < 256) bytes

-- the number with these digits to the base 256, the lowest first
unfoldable pub bytes_number : List ℕ → ℕ
bytes_number [] = 0
bytes_number (b ∷ rest) = b + 256 * bytes_number rest

-- the n lowest digits of a word to the base 256, the lowest first
unfoldable pub digits : ℕ → ℕ → List ℕ
digits zero w = []
digits (suc n) w = w % 256 ∷ digits n (w / 256)

-- ---- from bytes to words

-- the number of fields that so many bytes take
abbrev pub fields_for : ℕ → ℕ
fields_for n = (n + 6) / 7

-- the number of bytes that 65,535 fields have
abbrev pub most_bytes : ℕ
most_bytes = 458745

-- the last word says in bits 56 to 58 how many bytes it has
abbrev pub last_word : List ℕ → ℕ
last_word bytes = bytes_number bytes + 2 ^ 56 * length bytes

-- so many words, which have these bytes
unfoldable pub spelled_in : ℕ → List ℕ → List ℕ
spelled_in zero bytes = []
spelled_in (suc zero) bytes = last_word bytes ∷ []
spelled_in (suc (suc n)) bytes = bytes_number (take 7 bytes) ∷ spelled_in (suc n) (drop 7 bytes)

-- the words of a text with these bytes
unfoldable pub spelled : List ℕ → List ℕ
spelled bytes = spelled_in (fields_for (length bytes)) bytes

-- ---- from words to bytes

-- seven bytes of each word
abbrev pub bytes_of : List ℕ → List ℕ
bytes_of words = flat_map (digits 7) words

-- the number of bytes in a text whose last word says that it has `last` of them, after so many words; `last` is from 1 to 7
abbrev pub length_told : ℕ → ℕ → Option ℕ
length_told before last = if nat_lt 0 last && nat_le last 7 then Some (7 * before + last) else None

-- the number of bytes in the text that these words are, if they are one
unfoldable pub text_length : List ℕ → Option ℕ
text_length [] = Some 0
text_length (w ∷ rest) = length_told (length rest) (get_or (w ∷ rest) (length rest) 0 / 2 ^ 56)

-- the bytes of the text that these words are, if they are one
abbrev pub text_of : List ℕ → Option (List ℕ)
text_of words = option_map (λ n. take n (bytes_of words)) (text_length words)

-- ---- bytes that are written over others

-- the list with these elements in the places from `at` on
abbrev pub overwritten : List ℕ → ℕ → List ℕ → List ℕ
overwritten list at elements = take at list ++ elements ++ drop (at + length elements) list

-- the words of a text that change where these bytes are written over its own, from byte `at` on: from the word of the first byte to that of the last
abbrev pub changed_words : List ℕ → ℕ → List ℕ → List ℕ
changed_words text at [] = []
changed_words text at (b ∷ rest) = slice_range (spelled (overwritten text at (b ∷ rest))) (at / 7) (fields_for (at + length (b ∷ rest)))
