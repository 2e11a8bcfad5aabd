-- The roots before this place correspond.
use Rattle.std.proofs.Common.{◌≡◌, ◌<◌, ℕ, true, get_or}
use Rattle.gc_words.specs.Word.{words_correspond}
use Rattle.gc_monitor.specs.Origins.{pairs_in}
use Rattle.gc_monitor.specs.Outline.{outline_in}
use Rattle.gc_monitor.proofs.monitor.Monitor.roots_correspond.Given as goal

-- the roots before i correspond
abbrev pub invariant-loop-i : goal.invariant-loop-i
invariant-loop-i l = (j : ℕ) → j < l.i → words_correspond (pairs_in l.self.origins) (get_or (outline_in l.old).roots j 0) (get_or (outline_in l.new).roots j 0) ≡ true
