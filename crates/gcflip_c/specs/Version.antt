-- The version that the library says it is: 0.2.0.
use Rattle.std.specs.Prelude.{ℕ}

abbrev pub version : ℕ
version = 200
