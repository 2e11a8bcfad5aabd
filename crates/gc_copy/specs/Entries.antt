-- The entries of a mutation log.
use Rattle.std.specs.Prelude.{ℕ}
use Rattle.gc_copy.specs.declared.log.LogEntry.{LogEntry}

-- (object, field number)
abbrev pub entry_in : LogEntry → ℕ × ℕ
entry_in entry = (entry.object.0, entry.field)
