-- The receipts that the seats of a run have when their threads end.
use Rattle.std.specs.Prelude.{◌≡◌, ℕ, ◌+◌, ◌<◌, List, length, map, All, slice_index_or}
use Rattle.std.specs.declared.vec.Vec.{Vec}
use Rattle.std.specs.declared.alloc.Global.{Global}
use Rattle.gc_graph.specs.declared.command.Op.{Op}
use Rattle.gc_model.specs.declared.event.Event.{Event}
use Rattle.gc_model.specs.declared.event.Event.TheVariants.{Mutate}
use Rattle.gc_shared.specs.Seats.{SeatValue}
use Rattle.gc_shared.specs.Scripts.{script_at, IsUsefulStep}

-- the events on a seat's receipts, in order
abbrev pub events_on : SeatValue → List Event
events_on seat = map (λ r. r.entry.event) seat.receipts

-- the seat with this number has performed the commands of the script, in order, and nothing else
pub record HasPerformed (number : ℕ) (script : List Op) (seat : SeatValue) : Type 0 where
  pub same : seat.number ≡ number
  pub events : events_on seat ≡ map (Mutate number) script

-- the seat with this number has performed this many useful steps, and nothing else
pub record HasTurned (number turns : ℕ) (seat : SeatValue) : Type 0 where
  pub same : seat.number ≡ number
  pub count : length seat.receipts ≡ turns
  pub useful : All (λ r. IsUsefulStep r.entry.event r.entry.answer) seat.receipts

-- the first n seats have run their scripts
pub record HavePlayed (scripts : List (Vec Op Global)) (n : ℕ) (seats : List SeatValue) : Type 0 where
  pub count : length seats ≡ n
  pub each : (m : ℕ) (d : SeatValue) → m < n → HasPerformed m (script_at scripts m) (slice_index_or seats m d)

-- each mutator's seat has run its script, and the collector's seat, the last, has performed this many useful steps
pub record HaveEnded (scripts : List (Vec Op Global)) (turns : ℕ) (seats : List SeatValue) : Type 0 where
  pub count : length seats ≡ length scripts + 1
  pub each : (m : ℕ) (d : SeatValue) → m < length scripts → HasPerformed m (script_at scripts m) (slice_index_or seats m d)
  pub last : (d : SeatValue) → HasTurned (length scripts) turns (slice_index_or seats (length scripts) d)
