-- Where a handle stands, as clauses see it.
use Rattle.std.specs.Prelude.{Option, Some, None, ⊤, ◌⊎◌}
use Rattle.atomic_table.specs.Seated.{TableId}
use Rattle.gc_heap.specs.Heap.{HeapWords}
use Rattle.gc_concurrent.specs.Ends.{Theirs}
use Rattle.gc_concurrent.specs.Holders.{heap_in, heap_held, known_to, cells_of, cells_read_by}
use Rattle.gc_concurrent.specs.Waiters.{heap_left}
use Rattle.gc_concurrent.specs.declared.turns.Turns.{Turns}
use Rattle.gcflip_beside_c.specs.declared.end.End.{End}
use Rattle.gcflip_beside_c.specs.declared.end.End.TheVariants as ends

-- The handle has no end, or a mutator that runs in this heap, or one that stopped with it, or a collector that knows this: it works beside its
-- mutator, has asked it to stop, or holds it with its heap.
pub data HandleStage : Type 0 where
  closed : HandleStage
  runs : HeapWords → HandleStage
  parked : HeapWords → HandleStage
  works : Theirs → HandleStage
  asks : Theirs → HandleStage
  holds : Theirs → HeapWords → HandleStage

abbrev pub stage_of : End → HandleStage
stage_of ends.Nothing = closed
stage_of (ends.Running r) = runs (heap_in r.commander)
stage_of (ends.Parked w) = parked (heap_left w)
stage_of (ends.Working c) = works (known_to c.copier)
stage_of (ends.Asking a) = asks (known_to a.copier)
stage_of (ends.Holding h) = holds (known_to h.held.copier) (heap_held h.held)

abbrev pub stage : Option End → HandleStage
stage None = closed
stage (Some end) = stage_of end

-- the cells of a mutator that runs, or of a collector beside it
abbrev pub cells_of_end : End → Option TableId
cells_of_end (ends.Running r) = Some (cells_of r.commander)
cells_of_end (ends.Working c) = Some (cells_read_by c.copier)
cells_of_end end = None

abbrev pub cells_at : Option End → Option TableId
cells_at None = None
cells_at (Some end) = cells_of_end end

-- which flips of a collector ask the whole checker, and how many did
abbrev pub turns_of_end : End → Option Turns
turns_of_end (ends.Working c) = Some c.turns
turns_of_end (ends.Asking a) = Some a.turns
turns_of_end (ends.Holding h) = Some h.turns
turns_of_end end = None

abbrev pub turns_at : Option End → Option Turns
turns_at None = None
turns_at (Some end) = turns_of_end end

-- the handle has a mutator that runs
abbrev pub IsRunning : HandleStage → Type 0
IsRunning (runs heap) = ⊤
IsRunning s = ⊥

-- the handle has a mutator that has stopped
abbrev pub IsParked : HandleStage → Type 0
IsParked (parked heap) = ⊤
IsParked s = ⊥

-- the handle has a collector
abbrev pub IsCollector : HandleStage → Type 0
IsCollector (works t) = ⊤
IsCollector (asks t) = ⊤
IsCollector (holds t heap) = ⊤
IsCollector s = ⊥

abbrev pub IsMutator : HandleStage → Type 0
IsMutator s = IsRunning s ⊎ IsParked s
