-- The numbers that only these calls return.
use Rattle.std.specs.Prelude.{ℕ}

-- the mutator has stopped, and its collector has not let it go on
abbrev pub parked_mutator : ℕ
parked_mutator = 12

-- the other end is not so far
abbrev pub not_yet : ℕ
not_yet = 13

-- nothing is left for this step
abbrev pub clean : ℕ
clean = 35

-- the new space has no room for a replica
abbrev pub no_room : ℕ
no_room = 36

-- the mutator may go on in the new space
abbrev pub flip_made : ℕ
flip_made = 43

-- something is left to do before the flip
abbrev pub not_ready : ℕ
not_ready = 41

-- no root of the frame is left for a push
abbrev pub frame_full : ℕ
frame_full = 28

-- the frame has no value for a pop
abbrev pub frame_empty : ℕ
frame_empty = 29
