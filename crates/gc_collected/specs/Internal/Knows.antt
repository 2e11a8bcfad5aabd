-- A standing checker beside a collected heap that is never lost: what its tables know.
use Rattle.std.specs.Prelude.{◌≡◌, ◌≢◌, ◌≤◌, ◌<◌, ℕ, Bool, List, length, Option, unwrap_or, slice_index_or, IsTrue}
use Rattle.gc_graph.specs.Graph.{Object}
use Rattle.gc_words.specs.Layout.{field_place}
use Rattle.gc_model.specs.State.{Replica, Collection, State}
use Rattle.gc_model.specs.Steps.{fresh_collection}
use Rattle.gc_model.specs.Members.{In}
use Rattle.gc_model.specs.Belonging.{IsNamed, IsDue}
use Rattle.gc_monitor.specs.Watch.{Watch, is_due_at}
use Rattle.gc_monitor.specs.Tables.{Tables, RowsAgree, watch_of}
use Rattle.gc_monitor.specs.Telling.{IsMark}

-- this place is a field of a replica, which is due in this sense
abbrev pub IsDueField : (Bool → ℕ → ℕ → ℕ → Type 0) → List Replica → ℕ → Type 0
IsDueField Due replicas place = (r : Replica) × In r replicas × (i : ℕ) × (i < length r.object.fields)
    × (place ≡ field_place r.place i) × Due r.object.raw r.place r.original i

-- what is due for the watch is a field that the collector has yet to scan, or that a log has
abbrev pub DueOnly : Collection → Watch → Type 0
DueOnly c w = (place : ℕ) → IsTrue (is_due_at w place) → IsDueField (IsDue c) c.replicas place

-- each object of the heap has its mark, which tells whether it has a replica, and so has each replica; there are no other marks
pub record Marks (objects : List (ℕ × Object)) (replicas : List Replica) (t : Tables) : Type 0 where
  pub olds : (a : ℕ) → IsNamed objects a → IsMark (slice_index_or t.olds a 0)
  pub starts : (a : ℕ) → IsMark (slice_index_or t.olds a 0) → IsNamed objects a
  pub taken : (a : ℕ) → slice_index_or t.olds a 0 ≡ 2 → (r : Replica) × In r replicas × (r.original ≡ a)
  pub news : (r : Replica) → In r replicas → slice_index_or t.news r.place 0 ≡ 1
  pub places : (b : ℕ) → slice_index_or t.news b 0 ≡ 1 → (r : Replica) × In r replicas × (r.place ≡ b)
  pub free : (b : ℕ) → slice_index_or t.news b 0 ≢ 2

-- the tables know this collection of the heap, and there is room for both spaces
pub record Knows (s : State) (c : Collection) (t : Tables) : Type 0 where
  pub agree : RowsAgree t
  pub due : DueOnly c (watch_of t)
  pub marks : Marks s.heap.graph.objects c.replicas t
  pub old_room : s.size ≤ t.room
  pub new_room : c.size ≤ t.room

-- the open collection, or one that is just begun
abbrev pub open_or_fresh : State → Option Collection → Collection
open_or_fresh s collection = unwrap_or collection (fresh_collection s.mutators 1)

abbrev pub KnowsAll : State → Tables → Type 0
KnowsAll s t = Knows s (open_or_fresh s s.collection) t
