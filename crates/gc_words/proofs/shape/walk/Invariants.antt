-- The rest of the walk finds the fault that the whole walk finds.
use Rattle.std.proofs.Common.{◌≡◌, ◌-◌, length}
use Rattle.std.specs.Result.{result_err}
use Rattle.gc_words.specs.Internal.Walking.{walk_on}
use Rattle.gc_words.proofs.shape.walk.Given as goal

-- the rest of the walk finds what the whole walk finds
abbrev pub invariant-loop-at : goal.invariant-loop-at
invariant-loop-at l = result_err (walk_on l.raws l.words 1) ≡ result_err (walk_on l.raws l.words l.at)

abbrev pub decreases-loop-at : goal.decreases-loop-at
decreases-loop-at l = length l.words - l.at
