-- Steps on extra roots, and frames, which are stacks of extra roots.
use Rattle.std.specs.Prelude.{ℕ, suc, ◌-◌, ◌≤◌, nat_le, max, if◌then◌else◌}
use Rattle.gc_graph.specs.Slots.{SlotName}
use Rattle.gc_graph.specs.declared.command.Op.TheVariants.{Move}
use Rattle.gc_graph.specs.declared.reply.Reply.{Reply}
use Rattle.gc_heap.specs.ExtraRoots.{extra_root}
use Rattle.gc_model.specs.State.{State, extra_roots_of}
use Rattle.gc_model.specs.Steps.{mutate}
use Rattle.gc_collected.specs.ExtraRoots.{clear_step}
use Rattle.gc_pace.specs.declared.frame.Frame.{Frame}

-- mutator m's slot takes the value of extra root k
abbrev pub load_step : State → ℕ → SlotName → ℕ → Reply × State
load_step s m slot k = mutate s m (Move slot (extra_root s.mutators k))

-- extra root k takes the value of mutator m's slot
abbrev pub store_step : State → ℕ → ℕ → SlotName → Reply × State
store_step s m k slot = mutate s m (Move (extra_root s.mutators k) slot)

-- mutator m's slot takes the value of extra root k, which then becomes nil
abbrev pub pop_step : State → ℕ → SlotName → ℕ → Reply × State
pop_step s m slot k = let loaded = load_step s m slot k in (loaded.0, clear_step loaded.1 k 1)

-- the frame's numbers are in order, and the state has its roots; `high` may be below the top, and then counts as the top
abbrev pub HasFrame : Frame → State → Type 0
HasFrame frame s = (frame.first ≤ frame.top) × (frame.top ≤ frame.end) × (frame.high ≤ frame.end) × (frame.end ≤ extra_roots_of s)

-- the frame after a push: `high` is at least the new top
abbrev pub pushed : Frame → Frame
pushed frame = record frame { top = suc frame.top; high = max frame.high (suc frame.top) }

-- the frame after a pop: `high` goes down with the top, unless roots above it may hold values
abbrev pub popped : Frame → Frame
popped frame = record frame { top = frame.top - 1; high = if nat_le frame.high frame.top then frame.top - 1 else frame.high }

-- the frame after a trim of at most this many roots: `high` goes down by so many, but not below the top
abbrev pub trimmed : Frame → ℕ → Frame
trimmed frame most = record frame { high = max frame.top (frame.high - most) }

-- the roots from the `high` that a trim leaves on, and below the one before it, become nil
abbrev pub trim_step : State → Frame → ℕ → State
trim_step s frame most = let low = (trimmed frame most).high in clear_step s low (frame.high - low)
