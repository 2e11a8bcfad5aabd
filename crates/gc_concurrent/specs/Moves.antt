-- Where the last flip moved objects, and how a mutator finds what it has after a safepoint.
use Rattle.std.specs.Prelude.{◌≡◌, ◌⊎◌, ◌↔◌, ◌+◌, ◌/◌, ◌%◌, ◌^◌, ℕ, List, [], Option, Some, IsSome, IsTrue, slice_index}
use Rattle.gc_graph.specs.Graph.{Graph, lookup}
use Rattle.gc_graph.specs.Correspond.{Corresponding, paired}
use Rattle.gc_heap.specs.Heap.{HeapWords, graph_in}
use Rattle.gc_copy.specs.Words.{place_told}
use Rattle.gc_concurrent.specs.Ends.{Beginning, begun_with}

-- The index of the entry of the object at this address. Objects take two words or more, so no two start at addresses with the same half.
abbrev pub half : ℕ → ℕ
half a = a / 2

-- By half of an object's address the place to which the last flip moved it, or 0; and the number of flips, of which the low 64 bits are kept.
pub record MovesWords : Type 0 where
  pub row : List ℕ
  pub flips : ℕ

-- before the first flip
abbrev pub no_moves : MovesWords
no_moves = record { row = []; flips = 0 }

-- the place to which the last flip moved the object that was at this address, if it moved one
abbrev pub moved_to : MovesWords → ℕ → Option ℕ
moved_to moves a = place_told (slice_index moves.row (half a))

-- Of an object a of this graph the row tells b exactly if (a, b) is one of these pairs.
abbrev pub TellsPairs : Graph → List (ℕ × ℕ) → MovesWords → Type 0
TellsPairs graph pairs moves = (a b : ℕ) → IsSome (lookup graph.objects a) → (moved_to moves a ≡ Some b) ↔ IsTrue (paired pairs a b)

-- what a mutator takes through a safepoint: its heap, what it knows of flips, how the collection began, and the number of entries in its log
pub record Situation : Type 0 where
  pub heap : HeapWords
  pub moves : MovesWords
  pub begun : Beginning
  pub logged : ℕ

-- A flip leads from the one to the other. Some pairs of addresses make the graphs correspond, the row tells of each object of the old heap where it went
-- by these pairs, one more flip is counted, a collection has just begun, and the log is empty.
pub record FlipsTo (old new : Situation) : Type 0 where
  pub pairs : List (ℕ × ℕ)
  pub corresponding : Corresponding pairs (graph_in old.heap) (graph_in new.heap)
  pub moves : TellsPairs (graph_in old.heap) pairs new.moves
  pub counted : new.moves.flips ≡ (old.moves.flips + 1) % 2 ^ 64
  pub fresh : new.begun ≡ begun_with new.heap
  pub taken : new.logged ≡ 0

-- The mutator finds all as it was, but that the collector may have taken its log.
abbrev pub Stays : Situation → Situation → Type 0
Stays old new = (new ≡ old) ⊎ (new ≡ record old { logged = 0 })

-- The mutator finds all so, or after one flip.
abbrev pub StaysOrFlips : Situation → Situation → Type 0
StaysOrFlips old new = Stays old new ⊎ FlipsTo old new
