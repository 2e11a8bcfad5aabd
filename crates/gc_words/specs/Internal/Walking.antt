-- The walk over the words of a space from an address on, and where an object stands in them.
use Rattle.std.specs.Prelude.{◌≡◌, ℕ, ◌≤◌, Bool, true, List, length, take, drop, slice_index, Some, Result}
use Rattle.gc_words.specs.Layout.{fields_place, next_place}
use Rattle.gc_words.specs.Word.{read_header, header_in}
use Rattle.gc_words.specs.Image.{Block, walk, with_front}
use Rattle.gc_words.specs.Internal.Spelling.{IsBlock}
use Rattle.gc_words.specs.declared.header.Header.{Header}

-- the walk from this address on
abbrev pub walk_on : Bool → List ℕ → ℕ → Result (List (ℕ × Block)) ℕ
walk_on raws words at = walk raws 0 at (drop at words)

abbrev pub walk_from : List ℕ → ℕ → Result (List (ℕ × Block)) ℕ
walk_from words at = walk_on true words at

-- the object with this header whose words start at this address
abbrev pub block_from : List ℕ → ℕ → Header → Block
block_from words at h = record { header = h; fields = take h.len (drop (fields_place at) words) }

-- an object starts at `at` and ends before `next`, where the walk continues
pub record StepsIn (raws : Bool) (words : List ℕ) (at next : ℕ) : Type 0 where
  pub header : Header
  pub word : header_in raws (slice_index words at) ≡ Some header
  pub place : next ≡ next_place at header.len
  pub within : next ≤ length words
  pub walk_is : walk_on raws words at ≡ with_front (at, block_from words at header) (walk_on raws words next)

abbrev pub StepsTo : List ℕ → ℕ → ℕ → Type 0
StepsTo words at next = StepsIn true words at next

-- the words from `place` on are those of the object; its link may be any word
pub record StandsIn (words : List ℕ) (place : ℕ) (b : Block) : Type 0 where
  pub low : 1 ≤ place
  pub fits : next_place place b.header.len ≤ length words
  pub header : read_header (slice_index words place) ≡ Some b.header
  pub fields : b.fields ≡ take b.header.len (drop (fields_place place) words)
  pub whole : IsBlock b
