-- The numbers with which calls on handles are refused. Replies have the numbers of `Replies`.
use Rattle.std.specs.Prelude.{ℕ}

-- an argument is out of range
abbrev pub out_of_range : ℕ
out_of_range = 2

-- the handle has nothing
abbrev pub closed_handle : ℕ
closed_handle = 3

-- the handle is in use already
abbrev pub open_handle : ℕ
open_handle = 4
