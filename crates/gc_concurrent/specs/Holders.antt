-- What the types of the mutator's and the collector's side hold: a heap, and what the collector knows of it.
use Rattle.std.specs.Prelude.{◌≡◌, ◌⊎◌, ℕ, Bool, length}
use Rattle.gc_heap.specs.Heap.{HeapWords, graph_in}
use Rattle.gc_model.specs.Steps.{is_ready, roots_done}
use Rattle.atomic_table.specs.Seated.{TableId}
use Rattle.gc_concurrent.specs.declared.commands.Commander.{Commander}
use Rattle.gc_concurrent.specs.declared.copier.Copier.{Copier}
use Rattle.gc_concurrent.specs.declared.held.Held.{Held}
use Rattle.gc_concurrent.specs.Ends.{Beginning, Theirs, its}
use Rattle.gc_concurrent.specs.Heaps.{heap_of}
use Rattle.gc_concurrent.specs.Moves.{MovesWords, Situation}
use Rattle.gc_concurrent.specs.Nearing.{ComesNearer}
use Rattle.gc_words.specs.Space.{end_of}

-- the heap of a mutator that runs
abbrev pub heap_in : Commander → HeapWords
heap_in c = heap_of c.mutator.seat.me.0.mine c.roots.items

-- what a mutator that runs knows of flips
abbrev pub moves_in : Commander → MovesWords
moves_in c = c.moves

-- how the collection began for a mutator that runs: that heap, and whether the mutator has since made a reference from an address alone
abbrev pub beginning_of : Commander → Beginning
beginning_of c = c.mutator.seat.me.0.mine.base

-- the number of entries in the log of a mutator that runs
abbrev pub log_length : Commander → ℕ
log_length c = length c.mutator.seat.me.0.mine.log

-- what it takes through a safepoint
abbrev pub situation_in : Commander → Situation
situation_in c = record { heap = heap_in c; moves = moves_in c; begun = beginning_of c; logged = log_length c }

-- whether a mutator that runs logs its writes
abbrev pub logs_writes : Commander → Bool
logs_writes c = c.mutator.seat.me.0.mine.logs

-- the cells that a mutator reads and writes
abbrev pub cells_of : Commander → TableId
cells_of c = c.mutator.seat.table_id

-- the cells that a collector reads
abbrev pub cells_read_by : Copier → TableId
cells_read_by c = c.seat.table_id

-- what the collector knows: its new space, what is due, and how far it has scanned
abbrev pub known_to : Copier → Theirs
known_to c = c.seat.me.0.theirs

-- the heap of the mutator that a collector holds
abbrev pub heap_held : Held → HeapWords
heap_held h = heap_of h.copier.seat.me.0.mine h.roots.items

-- what that mutator knows of flips
abbrev pub moves_held : Held → MovesWords
moves_held h = h.moves

-- how the collection began for that mutator
abbrev pub beginning_held : Held → Beginning
beginning_held h = h.copier.seat.me.0.mine.base

-- Fewer steps are ahead of a collector that holds the mutator.
abbrev pub IsNearer : Held → Held → Type 0
IsNearer old new = ComesNearer (end_of (heap_held old).space) (known_to old.copier) (known_to new.copier)

-- The collector knows the same, or fewer steps are ahead of it.
abbrev pub StaysOrIsNearer : Held → Held → Type 0
StaysOrIsNearer old new = (known_to new.copier ≡ known_to old.copier) ⊎ IsNearer old new

-- Each root's target has a replica.
abbrev pub roots_placed : Held → Bool
roots_placed h = roots_done (its (known_to h.copier)) (graph_in (heap_held h))

-- Nothing is due, every replica is scanned, and each root's target has a replica.
abbrev pub may_flip : Held → Bool
may_flip h = is_ready (its (known_to h.copier)) (graph_in (heap_held h))
