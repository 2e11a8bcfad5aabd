-- The words of a space: a reserved word, then objects back to back. An image also has root words.
use Rattle.std.specs.Prelude.{◌≡◌, ℕ, zero, suc, ◌+◌, ◌-◌, ◌≤◌, ◌==◌, nat_le, Bool, true, if◌then◌else◌, List, [], ◌∷◌, length, take, drop, map, replicate, slice_get, slice_index, slice_set, Option, Some, None, Result, Ok, Err, IsOk, is_some}
use Rattle.std.specs.Option.{option_map, option_and_then}
use Rattle.std.specs.Result.{result_unwrap_or}
use Rattle.gc_graph.specs.Limits.{largest_space}
use Rattle.gc_graph.specs.Graph.{Object, Graph}
use Rattle.gc_graph.specs.Machine.{Roomy}
use Rattle.gc_words.specs.Word.{header_in, value_of, field_value}
use Rattle.gc_words.specs.declared.header.Header.{Header}

-- an object in a space: its header and its field words, without its link
pub record Block : Type 0 where
  pub header : Header
  pub fields : List ℕ

-- a new object: every field word is 0
abbrev pub fresh_block : Header → Block
fresh_block h = record { header = h; fields = replicate h.len 0 }

-- ---- the walk

abbrev pub with_front : {X : Type 0} → X → Result (List X) ℕ → Result (List X) ℕ
with_front x (Ok xs) = Ok (x ∷ xs)
with_front x (Err at) = Err at

-- the object with this header and then the others, or `at` if there is no header or there are too few words; `words` are the
-- words after the header: a link, then the fields
abbrev pub object_at : ℕ → Option Header → List ℕ → (ℕ → Result (List (ℕ × Block)) ℕ) → Result (List (ℕ × Block)) ℕ
object_at at None words others = Err at
object_at at (Some h) words others =
    if nat_le (h.len + 1) (length words) then with_front (at, record { header = h; fields = take h.len (drop 1 words) }) (others (h.len + 1)) else Err at

-- The objects in the words from address `at` on, each with its address. The first `inside` words still belong to an earlier
-- object. If an object should start at a word that is not a header, or if an object runs past the end, the result is the
-- first such address. `raws` says whether headers of raw objects are accepted.
abbrev pub walk : Bool → ℕ → ℕ → List ℕ → Result (List (ℕ × Block)) ℕ
walk raws inside at [] = Ok []
walk raws zero at (w ∷ words) = object_at at (header_in raws w) words (λ inside. walk raws inside (suc at) words)
walk raws (suc inside) at (w ∷ words) = walk raws inside (suc at) words

-- the walk over all words of a space or an image
abbrev pub walk_all : Bool → List ℕ → Result (List (ℕ × Block)) ℕ
walk_all raws words = walk raws 0 1 (drop 1 words)

-- the walk that accepts all headers
abbrev pub walk_words : List ℕ → Result (List (ℕ × Block)) ℕ
walk_words words = walk_all true words

-- A space of `size` words is shaped. `end` is the first address that no object takes, and so the number of words in the list.
-- Word 0 is reserved and is 0, and the walk over the other words reaches the end.
pub record HasShape (raws : Bool) (size end : ℕ) (words : List ℕ) : Type 0 where
  pub size_low : 1 ≤ size
  pub size_high : size ≤ largest_space
  pub end_low : 1 ≤ end
  pub end_high : end ≤ size
  pub count : length words ≡ end
  pub reserved : slice_index words 0 ≡ 0
  pub walked : IsOk (walk_all raws words)

-- ---- objects by their starts

-- The objects in the words of a space, each with its address. A shaped image that does not accept headers of raw objects has
-- none of them, so its objects are the same.
abbrev pub blocks : List ℕ → List (ℕ × Block)
blocks words = result_unwrap_or (walk_words words) []

abbrev pub block_in : List (ℕ × Block) → ℕ → Option Block
block_in [] place = None
block_in (entry ∷ rest) place = if entry.0 == place then Some entry.1 else block_in rest place

-- the object that starts at this address
abbrev pub block_at : List ℕ → ℕ → Option Block
block_at words place = block_in (blocks words) place

abbrev pub is_start : List ℕ → ℕ → Bool
is_start words place = is_some (block_at words place)

abbrev pub header_of : Option Block → Option Header
header_of o = option_map (λ b. b.header) o

-- the header of the object that starts at this address
abbrev pub header_at : List ℕ → ℕ → Option Header
header_at words place = header_of (block_at words place)

abbrev pub field_in : Option Block → ℕ → Option ℕ
field_in o i = option_and_then (λ b. slice_get b.fields i) o

-- field word i of the object that starts at this address
abbrev pub field_at : List ℕ → ℕ → ℕ → Option ℕ
field_at words place i = field_in (block_at words place) i

-- the block with field i set to this word
abbrev pub with_field_word : Block → ℕ → ℕ → Block
with_field_word b i w = record b { fields = slice_set b.fields i w }

-- the blocks with field i of the one at this address set to this word
abbrev pub set_block : List (ℕ × Block) → ℕ → ℕ → ℕ → List (ℕ × Block)
set_block [] place i w = []
set_block (entry ∷ rest) place i w = if entry.0 == place then (entry.0, with_field_word entry.1 i w) ∷ rest else entry ∷ set_block rest place i w

-- ---- images and their graphs

-- The words of a space up to its end, links included, and its root words. `raws` says whether headers of raw objects are
-- accepted.
pub record Image : Type 0 where
  pub size : ℕ
  pub end : ℕ
  pub words : List ℕ
  pub roots : List ℕ
  pub raws : Bool

abbrev pub IsShaped : Image → Type 0
IsShaped image = HasShape image.raws image.size image.end image.words

abbrev pub object_of_block : Block → Object
object_of_block b = record { raw = b.header.raw; kind = b.header.kind; fields = map (field_value b.header) b.fields }

abbrev pub object_entry : ℕ × Block → ℕ × Object
object_entry entry = (entry.0, object_of_block entry.1)

-- the objects of a space, named by their addresses, without their links
abbrev pub objects_of : List ℕ → List (ℕ × Object)
objects_of words = map object_entry (blocks words)

abbrev pub graph_of : Image → Graph
graph_of image = record { objects = objects_of image.words; roots = map value_of image.roots }

-- the graph of an image and its number of free words
abbrev pub roomy_of : Image → Roomy
roomy_of image = record { graph = graph_of image; free = image.size - image.end }
