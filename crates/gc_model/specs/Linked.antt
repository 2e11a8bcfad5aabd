-- The image of a graph whose names are addresses, with links. What the collector and the mutators do is defined without links.
use Rattle.std.specs.Prelude.{◌≡◌, ℕ, ◌%◌, ◌^◌, if◌then◌else◌, List, length, map, Option, Some, IfSome}
use Rattle.std.specs.Option.{option_map_or}
use Rattle.gc_graph.specs.Graph.{Value, Object, Graph, number_of}
use Rattle.gc_words.specs.Word.{word_of}
use Rattle.gc_words.specs.Image.{Block, Image}
use Rattle.gc_words.specs.Spelling.{spelled, no_links}
use Rattle.gc_words.specs.Space.{SpaceWords, image_with}
use Rattle.gc_words.specs.declared.header.Header.{Header}
use Rattle.gc_model.specs.State.{Replica, Collection, State, replica_of, replica_at, new_graph}

abbrev pub object_header : Object → Header
object_header object = record { raw = object.raw; kind = object.kind; len = length object.fields }

-- the word for a field of an object with this header
abbrev pub field_word : Header → Value → ℕ
field_word h v = if h.raw then number_of v else word_of v

-- an object as a space holds it, without its link
abbrev pub object_block : Object → Block
object_block object = record { header = object_header object; fields = map (field_word (object_header object)) object.fields }

abbrev pub block_entry : ℕ × Object → ℕ × Block
block_entry entry = (entry.0, object_block entry.1)

-- a space with these objects; the object at address a has the link `links a`
abbrev pub linked_space : (ℕ → ℕ) → ℕ → List (ℕ × Object) → SpaceWords
linked_space links size objects = record { size = size; words = spelled links (map block_entry objects) }

abbrev pub linked_image : (ℕ → ℕ) → ℕ → Graph → Image
linked_image links size g = image_with (linked_space links size g.objects) (map word_of g.roots)

-- the same with all links 0
abbrev pub image_of_graph : ℕ → Graph → Image
image_of_graph size g = linked_image no_links size g

-- ---- the links of a collection

-- in the old space an original's link is its replica's address
abbrev pub old_links : Collection → ℕ → ℕ
old_links c a = option_map_or (λ r. r.place) (replica_of c a) 0

-- in the new space a replica's link is its original's address
abbrev pub new_links : Collection → ℕ → ℕ
new_links c b = option_map_or (λ r. r.original) (replica_at c b) 0

-- The low 32 bits of an original's link are its replica's address. The other bits, and the links of other objects, may have any value.
abbrev pub LeadsTo : (ℕ → ℕ) → Collection → Type 0
LeadsTo links c = (a : ℕ) (r : Replica) → replica_of c a ≡ Some r → links a % 2 ^ 32 ≡ r.place

-- the same of the open collection, if there is one
abbrev pub LeadsToOpen : (ℕ → ℕ) → Option Collection → Type 0
LeadsToOpen links collection = IfSome collection (LeadsTo links)

-- the two images, with links, that the checker gets and a flip keeps; the new one has the moved roots
abbrev pub old_image : State → Collection → Image
old_image s c = linked_image (old_links c) s.size s.heap.graph

abbrev pub new_image : State → Collection → Image
new_image s c = linked_image (new_links c) c.size (new_graph c s.heap.graph.roots)
