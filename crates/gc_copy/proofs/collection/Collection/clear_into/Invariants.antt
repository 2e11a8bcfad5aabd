-- So far, an object of the heap has no link above the mark, or its replica is still ahead.
use Rattle.std.proofs.Common.{◌-◌, length}
use Rattle.gc_copy.proofs.Dropping.{Clears}
use Rattle.gc_copy.proofs.collection.Collection.clear_into.Given as goal

-- the originals of the replicas before this place have no link
abbrev pub invariant-loop-at : goal.invariant-loop-at
invariant-loop-at l = Clears l.self-inside.epoch l.self-inside.space.words l.fn.heap l.heap l.at.0

abbrev pub decreases-loop-at : goal.decreases-loop-at
decreases-loop-at l = length l.self-inside.space.words - l.at.0
