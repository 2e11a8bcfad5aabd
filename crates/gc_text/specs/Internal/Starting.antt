-- A text before its first read.
use Rattle.std.specs.Prelude.{ℕ, false, []}
use Rattle.gc_text.specs.Reading.{Progress}

abbrev pub nothing_read : ℕ → Progress
nothing_read limit = record { waiting = []; read = 0; limit = limit; ended = false; taken = 0 }
