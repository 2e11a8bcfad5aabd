-- The walk over the words of a space, one object at a time, as loops perform it.
use Rattle.std.specs.Prelude.{ℕ, ◌-◌, nat_le, Bool, true, if◌then◌else◌, List, length, slice_index, Option, Some, None}
use Rattle.gc_graph.specs.Machine.{object_words}
use Rattle.gc_words.specs.Layout.{next_place}
use Rattle.gc_words.specs.Word.{header_in}
use Rattle.gc_words.specs.declared.header.Header.{Header}

abbrev pub next_after : ℕ → Option Header → ℕ → Option ℕ
next_after at None room = None
next_after at (Some h) room = if nat_le (object_words h.len) room then Some (next_place at h.len) else None

-- the address after the object that starts at `at`; `raws` says whether headers of raw objects are accepted
abbrev pub next_in : Bool → List ℕ → ℕ → Option ℕ
next_in raws words at = next_after at (header_in raws (slice_index words at)) (length words - at)

-- the same if they are accepted
abbrev pub next_of : List ℕ → ℕ → Option ℕ
next_of words at = next_in true words at
