-- Extra roots: root words that follow those of all slots in the list of roots.
use Rattle.std.specs.Prelude.{ℕ, ◌+◌, ◌-◌, ◌≤◌, [], replicate}
use Rattle.gc_graph.specs.Limits.{most_mutators}
use Rattle.gc_graph.specs.Slots.{SlotName, roots_of}
use Rattle.gc_graph.specs.Graph.{Nil}
use Rattle.gc_graph.specs.Machine.{Roomy}
use Rattle.gc_heap.specs.Places.{root_at}
use Rattle.gc_heap.specs.declared.options.HeapOptions.{HeapOptions}

-- the maximum number of extra roots of a heap
abbrev pub most_extra_roots : ℕ
most_extra_roots = 1048576

-- the name of extra root k of a heap with this many mutators, for each of them: the slots come first
abbrev pub extra_root : ℕ → ℕ → SlotName
extra_root mutators k = root_at (roots_of mutators + k)

-- a heap can be opened with these options
pub record CanOpen (options : HeapOptions) : Type 0 where
  pub low : 1 ≤ options.size
  pub some : 1 ≤ options.mutators
  pub few : options.mutators ≤ most_mutators
  pub extra : options.extra_roots ≤ most_extra_roots

-- the initial state in a space of this many words, with this many extra roots: no objects, and every root is nil
abbrev pub opening_with : HeapOptions → Roomy
opening_with options = record { graph = record { objects = []; roots = replicate (roots_of options.mutators + options.extra_roots) Nil }; free = options.size - 1 }
