-- A collected heap as contracts see it: the core's state, and beside it how its flips are checked, the memory that waits, and what the last flip
-- left.
use Rattle.std.specs.Prelude.{Option, None, ◌≡◌, ◌≢◌, ◌⊎◌, ℕ, zero, suc, ◌+◌, ◌-◌, ◌^◌, ◌==◌, ◌&&◌, ◌||◌, not, min, nat_le, nat_lt, Bool, true, false, if◌then◌else◌, is_some}
use Rattle.gc_cert.specs.Grammar.{CertifiedPair}
use Rattle.gc_copy.specs.Words.{RoomWords, held_in}
use Rattle.gc_model.specs.State.{State}
use Rattle.gc_model.specs.declared.step.Step.{Step}
use Rattle.gc_model.specs.declared.step.Step.TheVariants.{Begin, BeginSized, Flip, Drop}
use Rattle.gc_model.specs.declared.step.StepReply.{StepReply}
use Rattle.gc_model.specs.declared.step.StepReply.TheVariants.{Begun, Flipped}
use Rattle.gc_collected.specs.Flip.{new_size}
use Rattle.gc_collected.specs.declared.checks.Checking.{Checking}
use Rattle.gc_collected.specs.declared.checks.Checking.TheVariants.{AtFlip, Along}
use Rattle.gc_collected.specs.declared.checks.FlipChecks.{FlipChecks}
use Rattle.gc_collected.specs.declared.flip.Keep.{Keep}
use Rattle.gc_collected.specs.declared.flip.Keep.TheVariants.{Pair, Room}

-- `along`: a standing checker goes along. `each`: each flip with this number checks both spaces whole, counted from the last one that did; if
-- it is 0, none does for its number. `since`: the flips since then. `checks`: how many flips each checker has accepted.
pub record Turns : Type 0 where
  pub along : Bool
  pub each : ℕ
  pub since : ℕ
  pub checks : FlipChecks

-- The words of room for the next collection, beside the old space of the last flip, and those of room that is given back in slices.
pub record Rooms : Type 0 where
  pub spare : ℕ
  pub leaving : ℕ

-- `former`: the old space of the last flip, if it was to stay as room for the next collection and none has begun since. `pair`: the pair of the
-- last flip, if it was to be kept and nobody has taken it.
pub record Beside : Type 0 where
  pub turns : Turns
  pub rooms : Rooms
  pub former : Option RoomWords
  pub pair : Option CertifiedPair

-- `roots_left`: how many looks at extra roots are left until the open collection knows each of them, or would be after a begin.
pub record Collected : Type 0 where
  pub core : State
  pub beside : Beside
  pub roots_left : ℕ

-- ---- how flips are checked

abbrev pub no_checks : FlipChecks
no_checks = record { along = 0; whole = 0 }

-- those of a heap that was just opened, in which no flip has been
abbrev pub opening_turns : Checking → Turns
opening_turns AtFlip = record { along = false; each = 1; since = 0; checks = no_checks }
opening_turns (Along whole_each) = record { along = true; each = whole_each; since = 0; checks = no_checks }

-- The next flip checks both spaces whole: no standing checker goes along, or the number of flips says so, or the flip's pair is to be kept.
abbrev pub checks_whole : Keep → Turns → Bool
checks_whole Pair t = true
checks_whole Room t = not t.along || (nat_lt 0 t.each && nat_le t.each (t.since + 1))

-- one flip more, which was checked whole or not; a count stays at the largest number of 64 bits
abbrev pub counted : Bool → FlipChecks → FlipChecks
counted whole c = if whole then record c { whole = min (c.whole + 1) (2 ^ 64 - 1) } else record c { along = min (c.along + 1) (2 ^ 64 - 1) }

-- the flips since the last one that was checked whole
abbrev pub since_after : Bool → ℕ → ℕ
since_after whole n = if whole then 0 else min (n + 1) (2 ^ 32 - 1)

abbrev pub flipped_turns : Keep → Turns → Turns
flipped_turns keep t = record t { since = since_after (checks_whole keep t) t.since; checks = counted (checks_whole keep t) t.checks }

-- those after a step that gets this reply
abbrev pub turns_after : Keep → Turns → StepReply → Turns
turns_after keep t (Flipped pairs) = flipped_turns keep t
turns_after keep t reply = t

-- ---- memory that waits

abbrev pub no_rooms : Rooms
no_rooms = record { spare = 0; leaving = 0 }

abbrev pub opening_beside : Checking → Beside
opening_beside checking = record { turns = opening_turns checking; rooms = no_rooms; former = None; pair = None }

-- A collection of this size begins, where the last flip left so many words. It takes what the flip left, or else the spare room, or else new
-- memory. Then the spare room leaves if nothing else does, and what the flip left does otherwise.
abbrev pub rooms_begun : ℕ → ℕ → Rooms → Rooms
rooms_begun size left r =
    if left == size then record { spare = 0; leaving = r.spare }
    else if r.spare == size then record { spare = 0; leaving = left }
    else if left == 0 then record { spare = 0; leaving = r.spare }
    else record { spare = r.spare; leaving = left }

-- The rooms after a begin. Where the collection takes new memory, the spare room may have been freed first, because memory was refused.
abbrev pub HasBegun : ℕ → ℕ → Rooms → Rooms → Type 0
HasBegun size left old new = (new ≡ rooms_begun size left old) ⊎ ((left ≢ size) × (new ≡ rooms_begun size left (record old { spare = 0 })))

-- Memory was refused: nothing leaves any more, and the spare room stays or is freed.
abbrev pub WereRefused : Rooms → Rooms → Type 0
WereRefused old new = (new ≡ record old { leaving = 0 }) ⊎ (new ≡ no_rooms)

-- A collection with a new space of this many words was given up, or none was open. Its room is the spare room, or leaves if there is one.
abbrev pub rooms_given_up : ℕ → Rooms → Rooms
rooms_given_up words r = if words == 0 then r else if r.spare == 0 then record r { spare = words } else record r { leaving = words }

-- a flip that checks both spaces whole frees what leaves first
abbrev pub rooms_flipped : Keep → Beside → Rooms
rooms_flipped keep b = if checks_whole keep b.turns then record b.rooms { leaving = 0 } else b.rooms

-- a collection of this size begins
abbrev pub BeginsIn : ℕ → Beside → Rooms → Type 0
BeginsIn size b new = HasBegun size (held_in b.former) b.rooms new

-- the rooms after a step that gets this reply
abbrev pub HasStepped : Keep → Step → StepReply → Collected → Rooms → Type 0
HasStepped keep Begin Begun h new = BeginsIn h.core.size h.beside new
HasStepped keep (BeginSized size) Begun h new = BeginsIn size h.beside new
HasStepped keep Flip reply h new = new ≡ rooms_flipped keep h.beside
HasStepped keep Drop reply h new = new ≡ rooms_given_up (new_size h.core) h.beside.rooms
HasStepped keep step reply h new = new ≡ h.beside.rooms

-- There is room for a collection as large as the heap, unless one is open: what the last flip left, or else the spare room.
abbrev pub rooms_touched : Collected → Rooms
rooms_touched h =
    if held_in h.beside.former == h.core.size then h.beside.rooms
    else if is_some h.core.collection then h.beside.rooms
    else record h.beside.rooms { spare = h.core.size }

-- the words that one call gives back
abbrev pub slice : ℕ
slice = 32768

abbrev pub rooms_given_back : Rooms → Rooms
rooms_given_back r = record r { leaving = r.leaving - slice }

abbrev pub with_rooms : Collected → Rooms → Collected
with_rooms h r = record h { beside = record h.beside { rooms = r } }

-- no memory waits, and nobody can ask any more where the last flip moved an object
abbrev pub released : Beside → Beside
released b = record b { rooms = no_rooms; former = None }

-- nothing has changed but the memory that waits, and how many looks are left
abbrev pub IsUnchangedButRooms : Collected → Collected → Type 0
IsUnchangedButRooms old new = new ≡ record (with_rooms old new.beside.rooms) { roots_left = new.roots_left }

-- ---- many flips

-- after so many flips, whose pairs were not to be kept
abbrev pub after_flips : ℕ → Turns → Turns
after_flips zero t = t
after_flips (suc n) t = flipped_turns Room (after_flips n t)
