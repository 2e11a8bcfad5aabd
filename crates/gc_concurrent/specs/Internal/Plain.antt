-- A space in a row of plain words.
use Rattle.std.specs.Prelude.{◌≡◌, ℕ, ◌-◌, ◌/◌, ◌<◌, ◌≤◌, List, [], length, take, drop, replicate}
use Rattle.gc_words.specs.Closed.{IsClosed}
use Rattle.gc_words.specs.Space.{SpaceWords, IsSpace}
use Rattle.gc_concurrent.specs.Internal.Starts.{TellsStarts}

-- the space whose objects end at this place of the row
abbrev pub space_in : List ℕ → ℕ → SpaceWords
space_in row end = record { size = length row; words = take end row }

-- The words of the row up to the end are a closed space, the free words are 0, and the row of starts has a bit for each word.
pub record IsRowOfSpace (row : List ℕ) (end : ℕ) (starts : List ℕ) : Type 0 where
  pub space : IsSpace (space_in row end)
  pub closed : IsClosed (take end row) []
  pub within : end ≤ length row
  pub free : drop end row ≡ replicate (length row - end) 0
  pub wide : length row / 64 < length starts
  pub marked : TellsStarts starts (take end row)
