-- What useful steps leave beside the heap's state: the old space of the last flip, how flips are checked, and the memory that waits.
use Rattle.std.specs.Prelude.{◌≡◌, ◌⊎◌, ℕ, zero, suc, ◌+◌, ◌≤◌, Bool, false, if◌then◌else◌, Option, None, IsSome, IsTrue}
use Rattle.std.specs.Option.{unwrap_or}
use Rattle.gc_model.specs.State.{State}
use Rattle.gc_model.specs.declared.step.Step.TheVariants.{Flip}
use Rattle.gc_copy.specs.Words.{RoomWords}
use Rattle.gc_collected.specs.CollectedHeap.{Allocates}
use Rattle.gc_collected.specs.Flip.{FormerAfter}
use Rattle.gc_collected.specs.Collected.{Collected, Turns, Rooms, Beside, BeginsIn, IsUnchangedButRooms, WereRefused, checks_whole, flipped_turns, rooms_flipped, rooms_given_back}
use Rattle.gc_collected.specs.declared.flip.Keep.TheVariants.{Room}
use Rattle.gc_pace.specs.Work.{sized_step, after_useful, useful_reply, has_flipped}
use Rattle.gc_pace.specs.declared.work.Work.{Work}

-- What n useful steps from the state s leave of the old space of the last flip. It tells where each object went, until a collection begins.
abbrev pub LeavesAfter : Option ℕ → ℕ → State → Option RoomWords → Option RoomWords → Type 0
LeavesAfter size zero s old new = new ≡ old
LeavesAfter size (suc n) s old new =
    (before : Option RoomWords) × LeavesAfter size n s old before × FormerAfter Room (after_useful size n s) before (useful_reply size n s) new

-- how flips are checked after this work, of which only the last step can be a flip
abbrev pub turns_after_work : Turns → Work → Turns
turns_after_work turns work = if has_flipped work then flipped_turns Room turns else turns

-- ---- memory that waits

-- The rooms while work's collection is open. Its first step begins the collection unless one is open.
abbrev pub HaveOpened : Option ℕ → State → Beside → Rooms → Type 0
HaveOpened size s b opened = (IsSome s.collection → opened ≡ b.rooms) × (s.collection ≡ None → BeginsIn (unwrap_or size s.size) b opened)

-- The rooms after useful steps, the last of which flips or not. Of the others none flips, and only the first may begin a collection.
abbrev pub HaveRooms : Option ℕ → State → Beside → Bool → Rooms → Type 0
HaveRooms size s b flips new =
    (opened : Rooms) × HaveOpened size s b opened × (new ≡ (if flips then rooms_flipped Room (record b { rooms = opened }) else opened))

-- The rooms after work that leads to the state t: as before if it performed no step. Otherwise it gives one slice back after its steps. A flip
-- that has to check both spaces whole frees what leaves even where it is refused memory.
pub record HaveWorked (size : Option ℕ) (s t : State) (b : Beside) (work : Work) (new : Rooms) : Type 0 where
  pub none : work.steps ≡ 0 → new ≡ b.rooms
  pub some : 1 ≤ work.steps → (flips : Bool) × (before : Rooms) × ((flips ≡ has_flipped work) ⊎ (IsTrue (checks_whole Room b.turns) × Allocates t Flip)) × HaveRooms size s b flips before × (new ≡ rooms_given_back before)

-- ---- looks at extra roots

-- The work took no more looks than were left. Unless it flipped, each of them leaves one less, at least.
pub record HaveFallen (old new : ℕ) (work : Work) : Type 0 where
  pub few : work.looks ≤ old
  pub less : has_flipped work ≡ false → new + work.looks ≤ old

-- ---- a call of work

-- what the work leaves beside the state
pub record LeavesBeside (size : Option ℕ) (old new : Collected) (work : Work) : Type 0 where
  pub former : LeavesAfter size work.steps old.core old.beside.former new.beside.former
  pub turns : new.beside.turns ≡ turns_after_work old.beside.turns work
  pub rooms : HaveWorked size old.core new.core old.beside work new.beside.rooms
  pub pair : new.beside.pair ≡ old.beside.pair
  pub looks : HaveFallen old.roots_left new.roots_left work

-- the call performed no step, because an allocation of the first one failed, and changed nothing but the memory that waits
pub record WasRefused (size : Option ℕ) (old new : Collected) : Type 0 where
  pub unchanged : IsUnchangedButRooms old new
  pub rooms : WereRefused old.beside.rooms new.beside.rooms
  pub allocates : Allocates old.core (sized_step size old.core)
