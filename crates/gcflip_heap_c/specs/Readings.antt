-- What C can read of a heap, besides its counts.
use Rattle.std.specs.Prelude.{◌≡◌, ℕ, nat_lt, if◌then◌else◌, List, length, slice_get, Option, None}
use Rattle.std.specs.Option.{option_map}
use Rattle.gc_model.specs.State.{State}
use Rattle.gc_collected.specs.Readings.{heap_image, log_of}
use Rattle.gcflip_heap_c.specs.declared.reading.GcflipLogEntry.{GcflipLogEntry}

-- entry k of mutator m's log, if the state has that mutator and the log has that entry
abbrev pub log_entry_at : State → ℕ → ℕ → Option GcflipLogEntry
log_entry_at s m k = if nat_lt m s.mutators then option_map (λ entry. record { object = entry.0; field = entry.1 }) (slice_get (log_of s m) k) else None

-- C's arrays are as long as the image's words and roots
abbrev pub FitsImage : List ℕ → List ℕ → State → Type 0
FitsImage words roots s = (length words ≡ length (heap_image s).words) × (length roots ≡ length (heap_image s).roots)
