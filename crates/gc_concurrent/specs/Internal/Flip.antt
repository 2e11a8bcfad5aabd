-- What holds where both ends are at hand and nothing is due.
use Rattle.std.specs.Prelude.{[], ◌≡◌, ◌<◌, ◌^◌, ℕ, true, false, List, map}
use Rattle.gc_graph.specs.Graph.{Graph}
use Rattle.gc_graph.specs.Correspond.{Corresponding}
use Rattle.gc_words.specs.Word.{value_of, word_of}
use Rattle.gc_words.specs.Space.{SpaceWords, IsSpace, image_with}
use Rattle.gc_words.specs.Certificate.{Certified}
use Rattle.gc_heap.specs.Heap.{HeapWords, IsHeap, graph_in}
use Rattle.gc_model.specs.State.{Replica, new_graph, pairs_of, moved}
use Rattle.gc_model.specs.Linked.{linked_image, new_links}
use Rattle.gc_model.specs.Members.{In}
use Rattle.gc_model.specs.Steps.{scan_done, roots_done}
use Rattle.gc_copy.specs.Words.{replicas_in}
use Rattle.gc_concurrent.specs.Ends.{Mine, Theirs, Known, its, one_heap}
use Rattle.gc_concurrent.specs.Internal.Rule.{CatchesUp, OneStep, Sat}
use Rattle.gc_concurrent.specs.Heaps.{heap_of}
use Rattle.gc_concurrent.specs.Unreachable.{CopiesNothingUnreachable}

-- these roots, as a graph without objects
abbrev pub roots_alone : List ℕ → Graph
roots_alone roots = record { objects = []; roots = map value_of roots }

-- nothing is left to do, for a mutator with these roots
pub record HasNothingLeft (roots : List ℕ) (v : Known) : Type 0 where
  pub logged : v.mine.log ≡ []
  pub applied : v.theirs.due ≡ []
  pub scanned : scan_done (its v.theirs) ≡ true
  pub rooted : roots_done (its v.theirs) (roots_alone roots) ≡ true

-- the root words as they refer to replicas
abbrev pub moved_words : Theirs → List ℕ → List ℕ
moved_words t roots = map word_of (map (moved (its t)) (map value_of roots))

-- this space, with the moved roots
abbrev pub new_heap_of : SpaceWords → List ℕ → Theirs → HeapWords
new_heap_of space roots t = one_heap space (moved_words t roots)

-- A space whose links are the originals' addresses, and whose objects are the replicas
pub record Holds (space : SpaceWords) (t : Theirs) : Type 0 where
  pub shaped : IsSpace space
  pub sized : space.size ≡ t.size
  pub same : t.replicas ≡ replicas_in space.words

-- each link of such a space, with the address of the object that has it
abbrev pub linked : Replica → ℕ × ℕ
linked r = (r.original, r.place)

abbrev pub linked_in : List ℕ → List (ℕ × ℕ)
linked_in words = map linked (replicas_in words)

-- The image of the space, and the new space with the moved roots, pass the check. A space that holds the replicas is then a heap with the moved
-- roots, and its graph corresponds to the mutator's: the mutator may go on in it. It is the new space, with its links. No replica is that of an
-- object that was unreachable at first, unless a reference was made from an address alone.
pub record Flips (roots : List ℕ) (m : Mine) (t : Theirs) : Type 0 where
  pub certified : (links : ℕ → ℕ) → Certified (image_with m.space roots) (linked_image links t.size (new_graph (its t) (map value_of roots))) (pairs_of (its t))
  pub corresponding : Corresponding (pairs_of (its t)) (graph_in (heap_of m roots)) (new_graph (its t) (map value_of roots))
  pub heap : (space : SpaceWords) → Holds space t → IsHeap (new_heap_of space roots t)
  pub graph : (space : SpaceWords) → Holds space t → graph_in (new_heap_of space roots t) ≡ new_graph (its t) (map value_of roots)
  pub image : (space : SpaceWords) → Holds space t → image_with space (moved_words t roots) ≡ linked_image (new_links (its t)) t.size (new_graph (its t) (map value_of roots))
  pub low : (p : ℕ × ℕ) → In p (pairs_of (its t)) → p.0 < 2 ^ 32
  pub carried : m.base.referred ≡ false → CopiesNothingUnreachable t

-- A load with both ends at hand shows that the mutator may go on in the new space.
abbrev pub tells_flip : OneStep → Sat → ℕ → Sat → Type 0
tells_flip st me found me' = (me' ≡ me) × CatchesUp me.0 × ((roots : List ℕ) → IsHeap (heap_of me.0.mine roots) → HasNothingLeft roots me.0 → Flips roots me.0.mine me.0.theirs)
