-- What the mutator and the collector of a heap know of it. Each has one end of the heap.
use Rattle.std.specs.Prelude.{[], ℕ, Bool, true, false, List, ◌∷◌}
use Rattle.gc_words.specs.Space.{SpaceWords}
use Rattle.gc_heap.specs.Heap.{HeapWords}
use Rattle.gc_model.specs.State.{Replica, Collection}

-- the heap of one mutator: its space and its roots
abbrev pub one_heap : SpaceWords → List ℕ → HeapWords
one_heap space roots = record { space = space; roots = roots; mutators = 1 }

-- how a collection began for the mutator: with this heap, and whether the mutator has since made a reference from an address alone
pub record Beginning : Type 0 where
  pub heap : HeapWords
  pub referred : Bool

-- The space, whether writes are logged, the fields that were logged since the log was last taken (oldest first), and how the collection began.
pub record Mine : Type 0 where
  pub space : SpaceWords
  pub logs : Bool
  pub log : List (ℕ × ℕ)
  pub base : Beginning

-- The size of the mutator's space, the new space as gc_model has it, the entries taken and not yet applied, addresses that were read and at
-- which objects start, and the heap with which the collection began.
pub record Theirs : Type 0 where
  pub old : ℕ
  pub size : ℕ
  pub replicas : List Replica
  pub scan_place : ℕ
  pub scan_field : ℕ
  pub due : List (ℕ × ℕ)
  pub wanted : List ℕ
  pub base : HeapWords

-- the collection as the collector knows it: its own entries alone
abbrev pub its : Theirs → Collection
its t = record { size = t.size; replicas = t.replicas; logs = t.due ∷ []; scan_place = t.scan_place; scan_field = t.scan_field }

-- which ends it has, what it knows as each of them, and the words of the mutator's space as its standing checker has seen them
pub record Known : Type 0 where
  pub writes : Bool
  pub copies : Bool
  pub mine : Mine
  pub theirs : Theirs
  pub seen : List ℕ

-- a collection of this heap that has just begun
abbrev pub begun_with : HeapWords → Beginning
begun_with heap = record { heap = heap; referred = false }

abbrev pub opening_mine : HeapWords → Mine
opening_mine heap = record { space = heap.space; logs = false; log = []; base = begun_with heap }

-- a collection of this heap, in a new space of this size, that has just begun
abbrev pub opening_theirs : HeapWords → ℕ → ℕ → Theirs
opening_theirs heap old size = record { old = old; size = size; replicas = []; scan_place = 1; scan_field = 0; due = []; wanted = []; base = heap }

abbrev pub opening_view : HeapWords → ℕ → Known
opening_view heap new_size = record { writes = true; copies = true; mine = opening_mine heap; theirs = opening_theirs heap heap.space.size new_size; seen = heap.space.words }
