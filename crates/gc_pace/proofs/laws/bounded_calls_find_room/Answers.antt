-- A call either performs all that is due, which keeps the work within a multiple of the room, or as much as its bound, which is more than the program
-- adds. So where little room is left, less than the bound is left to do.
use Rattle.gc_pace.proofs.Bounded.{bounded_room}
use Rattle.gc_pace.proofs.Cycles.{cycle_room, default_room}
use Rattle.gc_pace.proofs.laws.bounded_calls_find_room.Goals as goal

pub returns : goal.returns
returns c = record { room = bounded_room; cycle = cycle_room; default = default_room }
