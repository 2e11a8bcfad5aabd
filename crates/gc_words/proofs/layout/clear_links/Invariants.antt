-- The words so far, and then the other objects without links, are the words of all objects without links.
use Rattle.std.proofs.Common.{◌≡◌, ◌-◌, length}
use Rattle.std.specs.Prelude.{IsOk}
use Rattle.gc_words.specs.Image.{blocks}
use Rattle.gc_words.specs.Spelling.{spelled, no_links}
use Rattle.gc_words.specs.Internal.Walking.{walk_from}
use Rattle.gc_words.proofs.Steps.{relinked_from}
use Rattle.gc_words.proofs.layout.clear_links.Given as goal

-- the links before this place are 0, and nothing else has changed
abbrev pub invariant-loop-at : goal.invariant-loop-at
invariant-loop-at l = record {
  walked : IsOk (walk_from l.words l.at);
  cleared : spelled no_links (blocks l.initial.words) ≡ relinked_from no_links l.words l.at;
}

abbrev pub decreases-loop-at : goal.decreases-loop-at
decreases-loop-at l = length l.words - l.at
