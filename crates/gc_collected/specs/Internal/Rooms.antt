-- The memory of two rooms.
use Rattle.std.specs.Prelude.{Option}
use Rattle.gc_copy.specs.Words.{RoomWords, held_in}
use Rattle.gc_collected.specs.Collected.{Rooms}

-- the words of the spare room and of the one that leaves
abbrev pub rooms_in : Option RoomWords → Option RoomWords → Rooms
rooms_in spare leaving = record { spare = held_in spare; leaving = held_in leaving }
