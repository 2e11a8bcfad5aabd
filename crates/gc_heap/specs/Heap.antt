-- A heap as contracts see it: a space, whose words include links, the root words, and the number of mutators.
use Rattle.std.specs.Prelude.{◌≡◌, ◌≤◌, ◌+◌, ◌-◌, ℕ, List, length, replicate, IsTrue, IsFalse}
use Rattle.gc_graph.specs.Slots.{roots_of}
use Rattle.gc_graph.specs.Graph.{Graph}
use Rattle.gc_graph.specs.Machine.{Roomy}
use Rattle.gc_words.specs.Image.{Image, is_start, graph_of, roomy_of}
use Rattle.gc_words.specs.Spelling.{link_at}
use Rattle.gc_words.specs.Space.{SpaceWords, IsSpace, empty_space, image_with}
use Rattle.gc_words.specs.Closed.{IsClosed}
use Rattle.gc_heap.specs.ExtraRoots.{most_extra_roots}
use Rattle.gc_heap.specs.declared.options.HeapOptions.{HeapOptions}

pub record HeapWords : Type 0 where
  pub space : SpaceWords
  pub roots : List ℕ
  pub mutators : ℕ

abbrev pub image_of : HeapWords → Image
image_of heap = image_with heap.space heap.roots

-- the object graph that mutators see
abbrev pub graph_in : HeapWords → Graph
graph_in heap = graph_of (image_of heap)

-- the same graph, with the number of free words
abbrev pub roomy_in : HeapWords → Roomy
roomy_in heap = roomy_of (image_of heap)

-- the heap without objects, in which every root is nil
abbrev pub empty_heap : HeapOptions → HeapWords
empty_heap options = record { space = empty_space options.size; roots = replicate (roots_of options.mutators + options.extra_roots) 0; mutators = options.mutators }

-- the number of roots that follow those of the slots
abbrev pub extra_roots_in : HeapWords → ℕ
extra_roots_in heap = length heap.roots - roots_of heap.mutators

-- field words and root words are valid, references are to starts of objects, each mutator has its slots, and the extra roots
-- are not too many
pub record IsHeap (heap : HeapWords) : Type 0 where
  pub space : IsSpace heap.space
  pub closed : IsClosed heap.space.words heap.roots
  pub roots : roots_of heap.mutators ≤ length heap.roots
  pub few : length heap.roots ≤ roots_of heap.mutators + most_extra_roots

-- existing objects keep their links; the links of new objects are 0
pub record KeepsLinks (old new : List ℕ) : Type 0 where
  pub stays : (start : ℕ) → IsTrue (is_start old start) → link_at new start ≡ link_at old start
  pub fresh : (start : ℕ) → IsFalse (is_start old start) → IsTrue (is_start new start) → link_at new start ≡ 0
