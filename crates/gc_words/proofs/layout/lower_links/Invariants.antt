-- The words so far, and then the other objects with lowered links, are all objects with lowered links.
use Rattle.std.proofs.Common.{◌≡◌, ◌-◌, ◌≤◌, ℕ, get_or, length}
use Rattle.std.specs.Prelude.{IsOk}
use Rattle.gc_words.specs.Image.{blocks}
use Rattle.gc_words.specs.Spelling.{spelled, link_at}
use Rattle.gc_words.specs.Internal.Walking.{walk_from}
use Rattle.gc_words.proofs.Steps.{relinked_from}
use Rattle.gc_words.proofs.layout.lower_links.Given as goal

-- the links before this place are lowered, and nothing else has changed
abbrev pub invariant-loop-at : goal.invariant-loop-at
invariant-loop-at l = record {
  walked : IsOk (walk_from l.words l.at);
  lowered : spelled (λ a. link_at l.initial.words a - l.mark) (blocks l.initial.words) ≡ relinked_from (λ a. link_at l.initial.words a - l.mark) l.words l.at;
  rest : (p : ℕ) → l.at ≤ p → get_or l.words p 0 ≡ get_or l.initial.words p 0;
}

abbrev pub decreases-loop-at : goal.decreases-loop-at
decreases-loop-at l = length l.words - l.at
