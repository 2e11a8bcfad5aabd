-- Fields that take numbers and the values of slots, as fields that take numbers and the values of roots.
use Rattle.std.specs.Prelude.{ℕ, ◌==◌, if◌then◌else◌, List, [], ◌∷◌, Option, Some, None}
use Rattle.gc_graph.specs.Slots.{place}
use Rattle.gc_collected.specs.declared.giving.FieldValue.{FieldValue}
use Rattle.gc_collected.specs.declared.giving.FieldValue.TheVariants as values
use Rattle.gc_collected.specs.declared.mixed.FieldSource.{FieldSource}
use Rattle.gc_collected.specs.declared.mixed.FieldSource.TheVariants as sources

-- the last number after this field, given the last one before it
abbrev pub last_after : Option ℕ → FieldSource → Option ℕ
last_after before (sources.Number n) = Some n
last_after before source = before

-- and after these fields
abbrev pub last_number_of : Option ℕ → List FieldSource → Option ℕ
last_number_of before [] = before
last_number_of before (source ∷ rest) = last_number_of (last_after before source) rest

-- the value of the slot at place p, where the slot at place q has taken this number, if there was one
abbrev pub slot_by_place : ℕ → Option ℕ → ℕ → FieldValue
slot_by_place q None p = values.Root p
slot_by_place q (Some n) p = if p == q then values.Number n else values.Root p

-- what mutator m's field takes, by places
abbrev pub source_by_place : ℕ → ℕ → Option ℕ → FieldSource → FieldValue
source_by_place m q before sources.Nil = values.Nil
source_by_place m q before (sources.Number n) = values.Number n
source_by_place m q before (sources.Slot v) = slot_by_place q before (place v m)

-- and so on for these fields
abbrev pub sources_by_place : ℕ → ℕ → Option ℕ → List FieldSource → List FieldValue
sources_by_place m q before [] = []
sources_by_place m q before (source ∷ rest) = source_by_place m q before source ∷ sources_by_place m q (last_after before source) rest
