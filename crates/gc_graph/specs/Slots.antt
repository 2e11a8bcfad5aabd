-- Slots and their places in the list of roots.
use Rattle.std.specs.Prelude.{ℕ, ◌+◌, ◌*◌, Bool, true, false, if◌then◌else◌}
use Rattle.gc_graph.specs.Limits.{slots_each}

-- one of the sixteen shared slots, or one of a mutator's own sixteen
pub record SlotName : Type 0 where
  pub shared : Bool
  pub index : ℕ

abbrev pub own_slot : ℕ → SlotName
own_slot i = record { shared = false; index = i }

abbrev pub shared_slot : ℕ → SlotName
shared_slot i = record { shared = true; index = i }

-- the number of roots of this many mutators: the shared ones come first, then each mutator's own
abbrev pub roots_of : ℕ → ℕ
roots_of mutators = slots_each + slots_each * mutators

-- the place in the list of roots of the slot that has this name for mutator m
abbrev pub place : SlotName → ℕ → ℕ
place s m = if s.shared then s.index else roots_of m + s.index
