-- Images whose field words and root words are valid, and whose references all refer to objects.
use Rattle.std.specs.Prelude.{ℕ, ◌<◌, ◌^◌, Bool, true, false, List, IsTrue, ⊤}
use Rattle.std.specs.List.{All}
use Rattle.gc_graph.specs.Graph.{Value, Nil, Num, Ref}
use Rattle.gc_words.specs.Word.{is_value, value_of}
use Rattle.gc_words.specs.Image.{Block, blocks, is_start}
use Rattle.gc_words.specs.declared.header.Header.{Header}

-- if the value is a reference, an object starts at its address
abbrev pub RefersToStart : List ℕ → Value → Type 0
RefersToStart words Nil = ⊤
RefersToStart words (Num n) = ⊤
RefersToStart words (Ref a) = IsTrue (is_start words a)

-- the word is a value, and if it is a reference, an object starts at its address
pub record IsRootWord (words : List ℕ) (w : ℕ) : Type 0 where
  pub value : IsTrue (is_value w)
  pub start : RefersToStart words (value_of w)

-- a field word of a raw object is a number below 2 ^ 63; any other field word must be a valid root word
abbrev pub IsWordOfField : Bool → List ℕ → ℕ → Type 0
IsWordOfField true words w = w < 2 ^ 63
IsWordOfField false words w = IsRootWord words w

-- the word may be in a field of an object with this header
abbrev pub IsFieldWord : List ℕ → Header → ℕ → Type 0
IsFieldWord words h w = IsWordOfField h.raw words w

abbrev pub HasFieldWords : List ℕ → Block → Type 0
HasFieldWords words b = All (IsFieldWord words b.header) b.fields

-- every field word and every root word is valid
pub record IsClosed (words root_words : List ℕ) : Type 0 where
  pub fields : All (λ entry. HasFieldWords words entry.1) (blocks words)
  pub roots : All (IsRootWord words) root_words
