-- The state of a heap with a collector, without links. Names are addresses.
use Rattle.std.specs.Prelude.{ℕ, false, ◌-◌, ◌==◌, if◌then◌else◌, List, [], ◌∷◌, length, map, Option, None}
use Rattle.std.specs.Option.{option_map_or}
use Rattle.std.specs.List.{find}
use Rattle.gc_words.specs.Layout.{next_place}
use Rattle.gc_graph.specs.Graph.{Value, Ref, Object, Graph, new_object}
use Rattle.gc_graph.specs.Machine.{Roomy, opening_roomy}
use Rattle.gc_graph.specs.Slots.{roots_of}

-- an object in the new space (to-space), with its place and the name of its original
pub record Replica : Type 0 where
  pub original : ℕ
  pub place : ℕ
  pub object : Object

-- An open collection. Replicas lie back to back, in the order in which they were placed. Each mutator has a
-- log of (object, field number), oldest entry first. The scan pointer is a place and a field number.
pub record Collection : Type 0 where
  pub size : ℕ
  pub replicas : List Replica
  pub logs : List (List (ℕ × ℕ))
  pub scan_place : ℕ
  pub scan_field : ℕ

-- The mutators' heap, the size of its space, and the open collection, if any. `heap` is a graph with the number of free words.
pub record State : Type 0 where
  pub mutators : ℕ
  pub size : ℕ
  pub heap : Roomy
  pub collection : Option Collection

abbrev pub opening_state : ℕ → ℕ → State
opening_state size mutators = record { mutators = mutators; size = size; heap = opening_roomy size mutators; collection = None }

-- the number of roots that follow those of the slots
abbrev pub extra_roots_of : State → ℕ
extra_roots_of s = length s.heap.graph.roots - roots_of s.mutators

-- the address of the first free word in the mutators' space
abbrev pub heap_end : State → ℕ
heap_end s = s.size - s.heap.free

-- ---- the new space

-- the place after objects that lie back to back, from place `at` on
abbrev pub objects_end : ℕ → List (ℕ × Object) → ℕ
objects_end at [] = at
objects_end at (entry ∷ rest) = objects_end (next_place at (length entry.1.fields)) rest

-- the objects in the new space, the address of its first free word, and the number of its free words
abbrev pub new_objects : Collection → List (ℕ × Object)
new_objects c = map (λ r. (r.place, r.object)) c.replicas

abbrev pub new_end : Collection → ℕ
new_end c = objects_end 1 (new_objects c)

abbrev pub new_free : Collection → ℕ
new_free c = c.size - new_end c

-- ---- originals and replicas

-- the pairs of originals and replicas, as (old address, new address)
abbrev pub pairs_of : Collection → List (ℕ × ℕ)
pairs_of c = map (λ r. (r.original, r.place)) c.replicas

-- the replica of the object with this name, and the replica at this place
abbrev pub replica_of : Collection → ℕ → Option Replica
replica_of c name = find (λ r. r.original == name) c.replicas

abbrev pub replica_at : Collection → ℕ → Option Replica
replica_at c place = find (λ r. r.place == place) c.replicas

-- the value; a reference to an original becomes a reference to its replica
abbrev pub moved : Collection → Value → Value
moved c (Ref name) = Ref (option_map_or (λ r. r.place) (replica_of c name) name)
moved c v = v

-- an object's replica when it is placed: a raw object is copied whole; all fields of any other are nil
abbrev pub fresh_object : Object → Object
fresh_object object = if object.raw then object else new_object false object.kind (length object.fields)

-- the new space as a graph, with these roots moved from originals to replicas
abbrev pub new_graph : Collection → List Value → Graph
new_graph c roots = record { objects = new_objects c; roots = map (moved c) roots }
