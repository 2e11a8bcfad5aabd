-- What calls do that look at a value, read numbers, or move a frame.
use Rattle.std.specs.Prelude.{◌≡◌, ◌⊎◌, ℕ, ◌+◌, ◌-◌, ◌≤◌, max, nat_le, if◌then◌else◌, List, [], ◌∷◌}
use Rattle.gc_check.specs.InC.{done}
use Rattle.gc_graph.specs.Slots.{roots_of}
use Rattle.gc_graph.specs.declared.command.Op.{Op}
use Rattle.gc_graph.specs.declared.command.Op.TheVariants.{Move, Nil}
use Rattle.gc_graph.specs.declared.reply.Reply.{Reply}
use Rattle.gc_heap.specs.Heap.{HeapWords}
use Rattle.gc_heap.specs.Places.{root_at}
use Rattle.gc_concurrent.specs.Bulk.{PerformsEach, clear_commands}
use Rattle.gcflip_beside_c.specs.declared.frame.GcflipFrame.{GcflipFrame}

-- The heap stays as it is, and its reply is the one that is so told.
abbrev pub TellsReply : (HeapWords → Reply → Type 0) → HeapWords → HeapWords → Type 0
TellsReply told old new = (new ≡ old) × (reply : Reply) × told old reply

-- ---- frames, which are stacks in the extra roots

-- the place of extra root k
abbrev pub extra_place : ℕ → ℕ
extra_place k = roots_of 1 + k

-- the frame's numbers are in order, and a heap with so many roots has its roots; `high` may be below the top, and then counts as the top
abbrev pub HasFrame : GcflipFrame → ℕ → Type 0
HasFrame frame roots = (frame.first ≤ frame.top) × (frame.top ≤ frame.end) × (frame.high ≤ frame.end) × (extra_place frame.end ≤ roots)

-- the frame after a push: `high` is at least the new top
abbrev pub pushed : GcflipFrame → GcflipFrame
pushed frame = record frame { top = frame.top + 1; high = max frame.high (frame.top + 1) }

-- the frame after a pop: `high` goes down with the top, unless roots above it may hold values
abbrev pub popped : GcflipFrame → GcflipFrame
popped frame = record frame { top = frame.top - 1; high = if nat_le frame.high frame.top then frame.top - 1 else frame.high }

-- the frame after a trim of at most this many roots: `high` goes down by so many, but not below the top
abbrev pub trimmed : GcflipFrame → ℕ → GcflipFrame
trimmed frame most = record frame { high = max frame.top (frame.high - most) }

-- the commands of a push of root s, of a pop into root d, and of a trim
abbrev pub push_commands : GcflipFrame → ℕ → List Op
push_commands frame s = Move (root_at (extra_place frame.top)) (root_at s) ∷ []

abbrev pub pop_commands : GcflipFrame → ℕ → List Op
pop_commands frame d = let top = extra_place (frame.top - 1) in Move (root_at d) (root_at top) ∷ Nil (root_at top) ∷ []

abbrev pub trim_commands : GcflipFrame → ℕ → List Op
trim_commands frame most = let low = (trimmed frame most).high in clear_commands (extra_place low) (frame.high - low)

-- Where the top is at a bound of the frame, nothing changes, and the answer says so. Otherwise the commands are performed.
abbrev pub MovesFrame : ℕ → ℕ → ℕ → List Op → ℕ → HeapWords → HeapWords → Type 0
MovesFrame top bound stuck commands answer old new =
    ((top ≡ bound) × (answer ≡ stuck) × (new ≡ old)) ⊎ ((¬ (top ≡ bound)) × (answer ≡ done) × PerformsEach commands old new)
