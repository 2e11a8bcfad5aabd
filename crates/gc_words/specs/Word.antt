-- What words mean: headers of objects and values.
use Rattle.std.specs.Prelude.{ℕ, ◌+◌, ◌-◌, ◌*◌, ◌/◌, ◌%◌, ◌<◌, ◌≤◌, ◌==◌, nat_lt, nat_le, Bool, true, false, ◌&&◌, ◌||◌, if◌then◌else◌, List, Option, Some, None, ⊤}
use Rattle.gc_graph.specs.Limits.{largest_space, kinds, lengths}
use Rattle.gc_graph.specs.Graph.{Value, Nil, Num, Ref}
use Rattle.gc_graph.specs.Correspond.{correspond}
use Rattle.gc_words.specs.declared.header.Header.{Header}

-- kind and length are in range, so that a word can encode the header
pub record IsHeader (h : Header) : Type 0 where
  pub kind : h.kind < kinds
  pub len : h.len < lengths

-- the least header word of raw or of other objects: kind 0 without fields
abbrev pub least_header : Bool → ℕ
least_header raw = if raw then 50331648 else 16777216

-- the first word above these header words
abbrev pub past_headers : Bool → ℕ
past_headers raw = least_header raw + kinds * lengths

abbrev pub header_word : Header → ℕ
header_word h = least_header h.raw + lengths * h.kind + h.len

abbrev pub is_header_word : Bool → ℕ → Bool
is_header_word raw w = nat_le (least_header raw) w && nat_lt w (past_headers raw)

abbrev pub header_by : Bool → ℕ → Header
header_by raw w = record { raw = raw; kind = (w - least_header raw) / lengths; len = w % lengths }

-- the header that a word encodes, if it is a header word; the flag says whether headers of raw objects are accepted
abbrev pub header_in : Bool → ℕ → Option Header
header_in raws w = if is_header_word false w then Some (header_by false w) else if raws && is_header_word true w then Some (header_by true w) else None

abbrev pub read_header : ℕ → Option Header
read_header w = header_in true w

-- 0 is nil, an odd word is a number, and any other even word is a reference.
abbrev pub value_of : ℕ → Value
value_of w = if w == 0 then Nil else if w % 2 == 1 then Num (w / 2) else Ref (w / 2)

-- An odd word is a value. An even word is a value exactly if its address is below the number of words in the space.
abbrev pub is_value_within : ℕ → ℕ → Bool
is_value_within size w = (w % 2 == 1) || nat_lt w (2 * size)

-- a value in some space
abbrev pub is_value : ℕ → Bool
is_value w = is_value_within largest_space w

-- the value that a word of a space of this size can encode
abbrev pub read_value_within : ℕ → ℕ → Option Value
read_value_within size w = if is_value_within size w then Some (value_of w) else None

-- the value that a word encodes, if it is one
abbrev pub read_value : ℕ → Option Value
read_value w = read_value_within largest_space w

abbrev pub word_of : Value → ℕ
word_of Nil = 0
word_of (Num n) = 2 * n + 1
word_of (Ref a) = 2 * a

-- if the value is a reference, a word can hold its address
abbrev pub HasAddress : Value → Type 0
HasAddress (Ref a) = (1 ≤ a) × (a < largest_space)
HasAddress v = ⊤

-- if the value is a reference, a space of this size has its address
abbrev pub HasAddressWithin : ℕ → Value → Type 0
HasAddressWithin size (Ref a) = (1 ≤ a) × (a < size)
HasAddressWithin size v = ⊤

-- the value of a field word of an object with this header: each word of a raw object is a number
abbrev pub field_value : Header → ℕ → Value
field_value h w = if h.raw then Num w else value_of w

-- ---- words that correspond

abbrev pub read_correspond : List (ℕ × ℕ) → Option Value → Option Value → Bool
read_correspond pairs (Some v) (Some w) = correspond pairs v w
read_correspond pairs v w = false

-- both are nil, both are the same number, or both are references whose addresses are a pair; a word that is not a
-- value corresponds to no word
abbrev pub words_correspond : List (ℕ × ℕ) → ℕ → ℕ → Bool
words_correspond pairs v w = read_correspond pairs (read_value v) (read_value w)

-- the same for field words of objects with this header; the words of raw objects must be equal
abbrev pub field_words_correspond : Header → List (ℕ × ℕ) → ℕ → ℕ → Bool
field_words_correspond h pairs v w = if h.raw then v == w else words_correspond pairs v w
