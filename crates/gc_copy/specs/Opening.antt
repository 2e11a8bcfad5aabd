-- The state of a heap that was just opened with options.
use Rattle.std.specs.Prelude.{None}
use Rattle.gc_heap.specs.ExtraRoots.{opening_with}
use Rattle.gc_heap.specs.declared.options.HeapOptions.{HeapOptions}
use Rattle.gc_model.specs.State.{State}

-- the state without objects, with the extra roots that the options ask for
abbrev pub opening_state_with : HeapOptions → State
opening_state_with options = record { mutators = options.mutators; size = options.size; heap = opening_with options; collection = None }
