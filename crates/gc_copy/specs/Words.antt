-- A collection as contracts see it: a new space whose links are the originals' addresses, logs with spare capacity, and the scan
-- pointer.
use Rattle.std.specs.Prelude.{◌≡◌, ◌↔◌, ℕ, ◌+◌, ◌-◌, ◌<◌, ◌≤◌, ◌^◌, ◌*◌, ◌==◌, if◌then◌else◌, List, ◌++◌, drop, length, map, replicate, slice_get, slice_index, IsTrue, IsSome, Option, Some, None}
use Rattle.std.specs.Option.{option_map, option_map_or}
use Rattle.gc_graph.specs.Graph.{Graph, lookup}
use Rattle.gc_words.specs.Word.{word_of}
use Rattle.gc_words.specs.Image.{Block, blocks, is_start, object_of_block}
use Rattle.gc_words.specs.Spelling.{link_at}
use Rattle.gc_words.specs.Space.{SpaceWords, IsSpace}
use Rattle.gc_heap.specs.Heap.{HeapWords, graph_in, roomy_in}
use Rattle.gc_model.specs.State.{Replica, Collection, State, new_graph, replica_of}
use Rattle.gc_model.specs.Members.{In}
use Rattle.gc_model.specs.Belonging.{Belongs, BelongsBut}

-- the fields that a mutator wrote, oldest first, and the number of further entries that need no allocation
pub record Log : Type 0 where
  pub entries : List (ℕ × ℕ)
  pub spare : ℕ

-- `epoch` says by which mark the links of originals lead to their replicas
pub record CollectionWords : Type 0 where
  pub space : SpaceWords
  pub logs : List Log
  pub scan_place : ℕ
  pub scan_field : ℕ
  pub epoch : ℕ

-- The memory of a collection: the size of its space, and the number of empty logs. Until a collection begins in it, its words tell of each
-- address of the space before the last flip to which place the object there went, or 0.
pub record RoomWords : Type 0 where
  pub size : ℕ
  pub mutators : ℕ
  pub moves : List ℕ

-- the words of memory that such room takes, if there is any
abbrev pub held_in : Option RoomWords → ℕ
held_in room = option_map_or (λ (r : RoomWords). r.size) room 0

-- ---- the collection that the words represent

-- an object of the new space as a replica; its link is its original's address
abbrev pub replica_entry : List ℕ → ℕ × Block → Replica
replica_entry words entry = record { original = link_at words entry.0; place = entry.0; object = object_of_block entry.1 }

abbrev pub replicas_in : List ℕ → List Replica
replicas_in words = map (replica_entry words) (blocks words)

abbrev pub entries_of : Log → List (ℕ × ℕ)
entries_of log = log.entries

abbrev pub collection_in : CollectionWords → Collection
collection_in c = record { size = c.space.size; replicas = replicas_in c.space.words; logs = map entries_of c.logs; scan_place = c.scan_place; scan_field = c.scan_field }

-- the words are a space, the address of each original fits in a `u32`, and the number of logs fits in a `u8`
pub record IsCollection (c : CollectionWords) : Type 0 where
  pub space : IsSpace c.space
  pub logs : length c.logs < 256
  pub originals : (r : Replica) → In r (replicas_in c.space.words) → r.original < 2 ^ 32

-- ---- a heap with a collection

-- the heap's state: with this optional collection, without a collection, and with this one
abbrev pub state_of : HeapWords → Option Collection → State
state_of heap collection = record { mutators = heap.mutators; size = heap.space.size; heap = roomy_in heap; collection = collection }

abbrev pub idle_state : HeapWords → State
idle_state heap = state_of heap None

abbrev pub open_state : HeapWords → CollectionWords → State
open_state heap c = state_of heap (Some (collection_in c))

-- no object has a link
abbrev pub HasNoLinks : HeapWords → Type 0
HasNoLinks heap = (a : ℕ) → IsTrue (is_start heap.space.words a) → link_at heap.space.words a ≡ 0

-- Marks are further apart than addresses. So a link that an epoch left is not above the mark of a later one.
abbrev pub mark_of : ℕ → ℕ
mark_of epoch = epoch * 2 ^ 32

-- In this epoch the link leads to this place, or nowhere.
abbrev pub Leads : ℕ → Option ℕ → ℕ → Type 0
Leads epoch (Some place) link = link ≡ mark_of epoch + place
Leads epoch None link = link ≤ mark_of epoch

-- no object's link leads anywhere
abbrev pub LinksNothing : ℕ → HeapWords → Type 0
LinksNothing epoch heap = (a : ℕ) → IsTrue (is_start heap.space.words a) → Leads epoch None (link_at heap.space.words a)

-- an original's link leads to its replica, and no other link leads anywhere
abbrev pub LinksReplicas : ℕ → HeapWords → Collection → Type 0
LinksReplicas epoch heap c = (a : ℕ) → IsTrue (is_start heap.space.words a) → Leads epoch (option_map (λ r. r.place) (replica_of c a)) (link_at heap.space.words a)

-- the collection belongs to the heap, the heap's links lead to the replicas, and each mutator has a log
pub record BelongsTo (heap : HeapWords) (c : CollectionWords) : Type 0 where
  pub belongs : Belongs (graph_in heap).objects (collection_in c)
  pub links : LinksReplicas c.epoch heap (collection_in c)
  pub logs : length c.logs ≡ heap.mutators

-- the same, but these fields, as (object, field number), may be out of date
pub record BelongsToBut (fields : List (ℕ × ℕ)) (heap : HeapWords) (c : CollectionWords) : Type 0 where
  pub belongs : BelongsBut (λ a i. In {X = ℕ × ℕ} (a, i) fields) (graph_in heap).objects (collection_in c)
  pub links : LinksReplicas c.epoch heap (collection_in c)
  pub logs : length c.logs ≡ heap.mutators

-- the root words after the roots are moved to replicas
abbrev pub new_root_words : HeapWords → Collection → List ℕ
new_root_words heap c = map word_of (new_graph c (graph_in heap).roots).roots

-- These are the first root words after the roots are moved. The heap's roots behind them are nil, and so are the new ones.
pub record AreMoved (roots : List ℕ) (heap : HeapWords) (c : Collection) : Type 0 where
  pub moved : roots ++ replicate (length heap.roots - length roots) 0 ≡ new_root_words heap c
  pub nils : drop (length roots) heap.roots ≡ replicate (length heap.roots - length roots) 0

-- the number of entries that mutator m's log can take without an allocation
abbrev pub spare_in : Option Log → ℕ
spare_in log = option_map_or (λ log. log.spare) log 0

abbrev pub spare_of : CollectionWords → ℕ → ℕ
spare_of c m = spare_in (slice_get c.logs m)

-- ---- where objects went

-- this place, or none if it is 0
abbrev pub place_told : ℕ → Option ℕ
place_told place = if place == 0 then None else Some place

-- where the object went that was at this address
abbrev pub moved_in : RoomWords → ℕ → Option ℕ
moved_in room a = place_told (slice_index room.moves a)

-- The room tells b of an object a of this graph exactly if (a, b) is one of these pairs.
abbrev pub TellsMoves : Graph → List (ℕ × ℕ) → RoomWords → Type 0
TellsMoves graph pairs room = (a b : ℕ) → IsSome (lookup graph.objects a) → (moved_in room a ≡ Some b) ↔ In {X = ℕ × ℕ} (a, b) pairs
