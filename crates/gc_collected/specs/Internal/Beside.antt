-- A monitor beside a collected heap: what it has seen, and the words that it is shown.
use Rattle.std.specs.Prelude.{◌≡◌, ℕ, List, Option, Some, None}
use Rattle.gc_model.specs.State.{Collection, State, heap_end, new_objects}
use Rattle.gc_model.specs.Linked.{LeadsToOpen, linked_space, new_links}
use Rattle.gc_monitor.specs.Watch.{Watch}
use Rattle.gc_monitor.proofs.Public.{opening_watch}
use Rattle.gc_collected.specs.Internal.Stays.{GoesAlong}

-- the watch has seen the heap, and goes along with the open collection, if there is one
abbrev pub GoesBeside : State → Option Collection → Watch → Type 0
GoesBeside s None w = w ≡ opening_watch (heap_end s)
GoesBeside s (Some c) w = GoesAlong s.heap.graph.objects (heap_end s) c w

-- the words of the heap, whatever its links are, and those of the open collection's new space
abbrev pub heap_words : (ℕ → ℕ) → State → List ℕ
heap_words links s = (linked_space links s.size s.heap.graph.objects).words

abbrev pub replica_words : Collection → List ℕ
replica_words c = (linked_space (new_links c) c.size (new_objects c)).words

-- the words that a caller read are those of the mutators' space, with links that lead to the open collection's replicas
abbrev pub AreOld : State → List ℕ → Type 0
AreOld s old = (links : ℕ → ℕ) × LeadsToOpen links s.collection × (old ≡ heap_words links s)
