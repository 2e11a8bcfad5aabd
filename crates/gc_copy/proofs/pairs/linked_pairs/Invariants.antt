-- So far, the pairs are those of the objects before this place.
use Rattle.std.proofs.Common.{◌-◌, length}
use Rattle.gc_copy.proofs.ObjectWalks.{Lists}
use Rattle.gc_copy.proofs.pairs.linked_pairs.Given as goal

-- the objects before the place are listed
abbrev pub invariant-loop-at : goal.invariant-loop-at
invariant-loop-at l = Lists l.words l.at l.pairs.items

abbrev pub decreases-loop-at : goal.decreases-loop-at
decreases-loop-at l = length l.words - l.at
