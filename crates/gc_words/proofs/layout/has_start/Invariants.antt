-- An object starts at the place exactly if the rest of the walk meets one there.
use Rattle.std.proofs.Common.{◌≡◌, ◌-◌, length}
use Rattle.std.specs.Prelude.{IsOk}
use Rattle.gc_words.specs.Internal.Walking.{walk_from}
use Rattle.gc_words.proofs.Steps.{has_start_from}
use Rattle.gc_words.proofs.layout.has_start.Given as goal

-- the place is a start exactly if the rest of the walk meets it
abbrev pub invariant-loop-at : goal.invariant-loop-at
invariant-loop-at l = record {
  walked : IsOk (walk_from l.words l.at);
  same : has_start_from l.words 1 l.place ≡ has_start_from l.words l.at l.place;
}

abbrev pub decreases-loop-at : goal.decreases-loop-at
decreases-loop-at l = length l.words - l.at
