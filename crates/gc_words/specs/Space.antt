-- Spaces as contracts see them, and what calls do to them.
use Rattle.std.specs.Prelude.{◌≡◌, ℕ, suc, true, ◌+◌, ◌-◌, ◌≤◌, List, [], ◌∷◌, ◌++◌, length, slice_set, Some}
use Rattle.gc_graph.specs.Machine.{object_words}
use Rattle.gc_words.specs.Layout.{link_place, field_place}
use Rattle.gc_words.specs.Word.{IsHeader}
use Rattle.gc_words.specs.Image.{Image, Block, HasShape, blocks, block_at, fresh_block}
use Rattle.gc_words.specs.Spelling.{block_words, spelled, no_links}
use Rattle.gc_words.specs.declared.header.Header.{Header}

-- the maximum number of words, and the words up to the end, links included
pub record SpaceWords : Type 0 where
  pub size : ℕ
  pub words : List ℕ

abbrev pub IsSpace : SpaceWords → Type 0
IsSpace space = HasShape true space.size (length space.words) space.words

-- the space without objects
abbrev pub empty_space : ℕ → SpaceWords
empty_space size = record { size = size; words = 0 ∷ [] }

-- the first address that no object takes
abbrev pub end_of : SpaceWords → ℕ
end_of space = length space.words

-- the number of free words
abbrev pub free_in : SpaceWords → ℕ
free_in space = space.size - end_of space

-- there is room for an object with this many fields
abbrev pub HasRoomFor : SpaceWords → ℕ → Type 0
HasRoomFor space len = object_words len ≤ free_in space

-- an object with this header can be placed
pub record CanPlace (space : SpaceWords) (h : Header) : Type 0 where
  pub shaped : IsSpace space
  pub header : IsHeader h
  pub room : HasRoomFor space h.len

-- the space with one more object at its end, whose link is 0
abbrev pub with_block : SpaceWords → Block → SpaceWords
with_block space b = record space { words = space.words ++ block_words 0 b }

-- the space with one new object, whose field words are all 0
abbrev pub with_object : SpaceWords → Header → SpaceWords
with_object space h = with_block space (fresh_block h)

-- the space with one word changed
abbrev pub with_word : SpaceWords → ℕ → ℕ → SpaceWords
with_word space place w = record space { words = slice_set space.words place w }

-- the space with this word as field i, or as the link, of the object that starts at this address
abbrev pub with_field_at : SpaceWords → ℕ → ℕ → ℕ → SpaceWords
with_field_at space start i w = with_word space (field_place start i) w

-- the space with these words as the fields from i on of the object that starts at this address
abbrev pub with_fields : SpaceWords → ℕ → ℕ → List ℕ → SpaceWords
with_fields space start i [] = space
with_fields space start i (w ∷ rest) = with_fields (with_field_at space start i w) start (suc i) rest

-- an object starts at this address that has `count` fields from field i on
pub record HasFields (space : SpaceWords) (start i count : ℕ) : Type 0 where
  pub block : Block
  pub found : block_at space.words start ≡ Some block
  pub long : i + count ≤ length block.fields

abbrev pub with_link : SpaceWords → ℕ → ℕ → SpaceWords
with_link space start w = with_word space (link_place start) w

-- the same objects with all links 0
abbrev pub without_links : SpaceWords → SpaceWords
without_links space = record space { words = spelled no_links (blocks space.words) }

-- the image of a space with these roots
abbrev pub image_with : SpaceWords → List ℕ → Image
image_with space roots = record { size = space.size; end = end_of space; words = space.words; roots = roots; raws = true }
