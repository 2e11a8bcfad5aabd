-- What callers can read of a state: both spaces with their links, the progress of a collection, and the logs.
use Rattle.std.specs.Prelude.{◌≡◌, ℕ, List, [], Option}
use Rattle.std.specs.Option.{option_map, option_map_or}
use Rattle.gc_words.specs.Image.{Image}
use Rattle.gc_words.specs.Spelling.{no_links}
use Rattle.gc_model.specs.State.{State, Collection, new_end}
use Rattle.gc_model.specs.Linked.{LeadsToOpen, linked_image, old_links, new_image}
use Rattle.gc_model.specs.Steps.{log_at}
use Rattle.gc_collected.specs.declared.reading.NewSpace.{NewSpace}

-- an image of the mutators' space, with the links of the open collection's originals
abbrev pub heap_image : State → Image
heap_image s = linked_image (option_map_or old_links s.collection no_links) s.size s.heap.graph

-- An image of the mutators' space. Its links need not be exact: their low 32 bits have to lead to the open collection's replicas.
abbrev pub ShowsHeap : State → Image → Type 0
ShowsHeap s image = (links : ℕ → ℕ) × LeadsToOpen links s.collection × (image ≡ linked_image links s.size s.heap.graph)

-- the words of the open collection's new space
abbrev pub new_words : State → Option (List ℕ)
new_words s = option_map (λ c. (new_image s c).words) s.collection

abbrev pub new_space_in : Collection → NewSpace
new_space_in c = record { size = c.size; end = new_end c; scan_place = c.scan_place; scan_field = c.scan_field }

abbrev pub new_space : State → Option NewSpace
new_space s = option_map new_space_in s.collection

-- mutator m's log
abbrev pub log_of : State → ℕ → List (ℕ × ℕ)
log_of s m = option_map_or (λ c. log_at c m) s.collection []
