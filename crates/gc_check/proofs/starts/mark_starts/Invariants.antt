-- The rest of the walk finds the fault of the whole, and the starts before this place have their marks.
use Rattle.std.proofs.Common.{◌≡◌, ◌-◌, length}
use Rattle.std.specs.Result.{result_err}
use Rattle.gc_words.proofs.Public.{walk_on}
use Rattle.gc_check.proofs.StartMarks.{MarksTo}
use Rattle.gc_check.proofs.starts.mark_starts.Given as goal

-- the rest of the walk finds what the whole walk finds, and the objects so far are marked
abbrev pub invariant-loop-at : goal.invariant-loop-at
invariant-loop-at l = record {
  same : result_err (walk_on l.raws l.words 1) ≡ result_err (walk_on l.raws l.words l.at);
  marked : MarksTo l.words l.marks l.at;
}

abbrev pub decreases-loop-at : goal.decreases-loop-at
decreases-loop-at l = length l.words - l.at
