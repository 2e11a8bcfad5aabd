-- The links of the objects before this place are lowered, and apart from links the heap is as it was.
use Rattle.std.proofs.Common.{◌-◌, length}
use Rattle.gc_copy.proofs.Lowering.{Lowers}
use Rattle.gc_copy.proofs.collection.flipping.lower_links.Given as goal

-- the links before this place are lowered
abbrev pub invariant-loop-at : goal.invariant-loop-at
invariant-loop-at l = Lowers l.mark l.fn.heap l.heap l.at.0

abbrev pub decreases-loop-at : goal.decreases-loop-at
decreases-loop-at l = length l.heap.space.words - l.at.0
