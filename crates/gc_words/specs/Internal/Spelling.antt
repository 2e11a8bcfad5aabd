-- When objects can be spelled back to back.
use Rattle.std.specs.Prelude.{◌≡◌, ℕ, List, [], ◌∷◌, length, ⊤}
use Rattle.gc_words.specs.Layout.{next_place}
use Rattle.gc_words.specs.Word.{IsHeader}
use Rattle.gc_words.specs.Image.{Block}

-- the header is valid, and the number of fields is its length
pub record IsBlock (b : Block) : Type 0 where
  pub header : IsHeader b.header
  pub fields : length b.fields ≡ b.header.len

-- the objects lie back to back from this address on
abbrev pub LaidOut : ℕ → List (ℕ × Block) → Type 0
LaidOut at [] = ⊤
LaidOut at (entry ∷ rest) = (entry.0 ≡ at) × IsBlock entry.1 × LaidOut (next_place at entry.1.header.len) rest
