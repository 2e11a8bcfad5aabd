-- Numbers that only the heap's calls return. Replies to commands have the numbers of `Replies`.
use Rattle.std.specs.Prelude.{ℕ}

-- a reply: the frame has no place left
abbrev pub frame_full : ℕ
frame_full = 28

-- a reply: the frame holds no value
abbrev pub frame_empty : ℕ
frame_empty = 29

-- a refusal: the words of a space are not shaped, since other code wrote over them
abbrev pub damaged : ℕ
damaged = 11
