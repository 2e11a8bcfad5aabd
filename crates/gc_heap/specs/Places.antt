-- Roots by their places in the list of roots.
use Rattle.std.specs.Prelude.{ℕ}
use Rattle.gc_graph.specs.Slots.{SlotName, shared_slot}

-- the name by which each mutator's command reaches the root at place p, be it a slot or an extra root: `place (root_at p) m` is p
abbrev pub root_at : ℕ → SlotName
root_at p = shared_slot p
