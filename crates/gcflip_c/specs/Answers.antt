-- The numbers that only the checker's calls return. They are none of the heap's.
use Rattle.std.specs.Prelude.{◌≡◌, ◌⊎◌, ℕ}
use Rattle.gc_check.specs.InC.{done, refused}

-- 2^32 pairs or more are given, or more are found than have room
abbrev pub too_many : ℕ
too_many = 7

abbrev pub too_large : ℕ
too_large = 8

abbrev pub bad_line : ℕ
bad_line = 49

abbrev pub ends_early : ℕ
ends_early = 50

abbrev pub no_path : ℕ
no_path = 51

-- the path has more fields than have room
abbrev pub long_path : ℕ
long_path = 52

-- the call answers with a verdict on two images
abbrev pub IsVerdict : ℕ → Type 0
IsVerdict answer = (answer ≡ done) ⊎ (answer ≡ refused)
