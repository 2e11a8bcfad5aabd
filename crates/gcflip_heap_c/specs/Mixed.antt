-- What the fields of a new object take, as C says it: numbers, and the values of slots or of roots.
use Rattle.std.specs.Prelude.{ℕ, ◌<◌, ◌^◌, ◌==◌, ◌&&◌, ◌||◌, nat_lt, Bool, IsTrue, if◌then◌else◌, List, length}
use Rattle.std.specs.List.{AllByRecursion}
use Rattle.gc_graph.specs.Limits.{lengths}
use Rattle.gc_collected.specs.declared.mixed.FieldSource.{FieldSource}
use Rattle.gc_collected.specs.declared.mixed.FieldSource.TheVariants.{Nil, Number, Slot}
use Rattle.gc_collected.specs.declared.giving.FieldValue.{FieldValue}
use Rattle.gc_collected.specs.declared.giving.FieldValue.TheVariants as values
use Rattle.gc_model.specs.State.{State}
use Rattle.gcflip_heap_c.specs.declared.mixed.GcflipField.{GcflipField}
use Rattle.gcflip_heap_c.specs.Slots.{slot_numbers, numbered_slot}

-- C's record says nothing, or names a number, or one of so many slots or roots
abbrev pub is_field : ℕ → GcflipField → Bool
is_field names f = (f.holds == 0) || ((f.holds == 1) && nat_lt f.value (2 ^ 63)) || ((f.holds == 2) && nat_lt f.value names)

-- every record is right, and there are no more than an object can have fields
abbrev pub AreFields : ℕ → List GcflipField → Type 0
AreFields names fields = (length fields < lengths) × AllByRecursion (λ f. IsTrue (is_field names f)) fields

-- ---- by slots

-- what the field takes
abbrev pub source_of : GcflipField → FieldSource
source_of f = if f.holds == 1 then Number f.value else if f.holds == 2 then Slot (numbered_slot f.value) else Nil

-- every record is right
abbrev pub AreSources : List GcflipField → Type 0
AreSources fields = AreFields slot_numbers fields

-- ---- by places

-- what the field takes
abbrev pub value_of_field : GcflipField → FieldValue
value_of_field f = if f.holds == 1 then values.Number f.value else if f.holds == 2 then values.Root f.value else values.Nil

-- every record is right in this state
abbrev pub GivesFields : List GcflipField → State → Type 0
GivesFields fields s = AreFields (length s.heap.graph.roots) fields
