-- Slots by the numbers that C gives them: 0 to 15 are the mutator's own, and 16 to 31 are the ones that all mutators share.
use Rattle.std.specs.Prelude.{ℕ, ◌-◌, ◌<◌, nat_lt, if◌then◌else◌, List}
use Rattle.std.specs.List.{AllByRecursion}
use Rattle.gc_graph.specs.Slots.{SlotName, own_slot, shared_slot}
use Rattle.gc_model.specs.State.{State}

abbrev pub slot_numbers : ℕ
slot_numbers = 32

abbrev pub numbered_slot : ℕ → SlotName
numbered_slot n = if nat_lt n 16 then own_slot n else shared_slot (n - 16)

-- the state has mutator m, and each of these numbers is that of a slot
abbrev pub NamesSlots : ℕ → List ℕ → State → Type 0
NamesSlots m numbers s = (m < s.mutators) × AllByRecursion (λ n. n < slot_numbers) numbers
