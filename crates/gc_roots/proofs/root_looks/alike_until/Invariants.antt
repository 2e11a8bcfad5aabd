-- The words at the places so far are alike.
use Rattle.std.proofs.Common.{◌≡◌, ◌<◌, ◌≤◌, ℕ, true, get_or}
use Rattle.gc_words.specs.Word.{words_correspond}
use Rattle.gc_monitor.specs.Origins.{pairs_in}
use Rattle.gc_roots.proofs.root_looks.alike_until.Given as goal

abbrev pub invariant-loop-place : goal.invariant-loop-place
invariant-loop-place l = (p : ℕ) → l.from ≤ p → p < l.place → words_correspond (pairs_in l.standing.origins) (get_or l.old p 0) (get_or l.new p 0) ≡ true
