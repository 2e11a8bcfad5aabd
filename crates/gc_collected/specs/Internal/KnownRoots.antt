-- What a collected heap knows of its roots.
use Rattle.std.specs.Prelude.{◌≡◌, ℕ, ◌<◌, ◌≤◌, ◌-◌, Option, Some, None}
use Rattle.gc_graph.specs.Slots.{roots_of}
use Rattle.gc_model.specs.State.{State}
use Rattle.gc_model.specs.Staying.{KnowsRoot}
use Rattle.gc_roots.specs.Looks.{ComparesKnown}
use Rattle.gc_copy.specs.Words.{CollectionWords}
use Rattle.gc_roots.specs.Twins.{RootRow, IsWritten, KeepsTwins, begun, looks_left}
use Rattle.gc_collected.specs.declared.known.KnownRoots.{KnownRoots}

-- If a collection is open, it has replicas of the targets of the first `slots` roots, and the row has the twins of extra roots.
pub record KnowsRoots (known : KnownRoots) (s : State) : Type 0 where
  pub slots_high : known.slots ≤ roots_of s.mutators
  pub slots : (p : ℕ) → p < known.slots → KnowsRoot s p
  pub keeps : KeepsTwins known.twins s

-- The looks that are left. A begin looks at nothing before.
abbrev pub roots_left_in : Option CollectionWords → RootRow → ℕ
roots_left_in None row = looks_left (begun row)
roots_left_in (Some c) row = looks_left row

-- the monitor has compared only extra roots whose twins are up to date
abbrev pub ComparesTwins : KnownRoots → Type 0
ComparesTwins known = ComparesKnown known.twins known.looks

-- nothing is known of the slots
abbrev pub without_slots : KnownRoots → KnownRoots
without_slots known = record { slots = 0; twins = known.twins; looks = known.looks }

-- extra root k was written
pub record HasWritten (was now : KnownRoots) (k : ℕ) : Type 0 where
  pub slots : now.slots ≡ was.slots
  pub twins : IsWritten was.twins now.twins k
  pub compares : ComparesTwins was → ComparesTwins now

-- The root at place p was written, where there are so many slots. If it is one of them, the first `known` slots are still known. Else the row is in
-- use below `bound`.
pub record HasStored (was now : KnownRoots) (known bound slots p : ℕ) : Type 0 where
  pub slot : p < slots → now ≡ record { slots = known; twins = was.twins; looks = was.looks }
  pub extra : slots ≤ p → HasWritten was now (p - slots)
  pub used : slots ≤ p → now.twins.used ≡ bound
