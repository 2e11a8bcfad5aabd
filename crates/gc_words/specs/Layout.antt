-- The places of an object's words: its header, then its link, then its fields.
use Rattle.std.specs.Prelude.{ℕ, ◌+◌}
use Rattle.gc_graph.specs.Machine.{object_words}

abbrev pub link_place : ℕ → ℕ
link_place start = start + 1

abbrev pub fields_place : ℕ → ℕ
fields_place start = start + 2

abbrev pub field_place : ℕ → ℕ → ℕ
field_place start i = fields_place start + i

-- the address after an object with this many fields
abbrev pub next_place : ℕ → ℕ → ℕ
next_place start len = start + object_words len
