-- The words so far are 0.
use Rattle.std.proofs.Common.{◌≡◌, ℕ, ◌<◌, ◌≤◌, get_or}
use Rattle.gc_roots.proofs.due.first_word.Given as goal

abbrev pub invariant-loop-j : goal.invariant-loop-j
invariant-loop-j l = (i : ℕ) → l.from ≤ i → i < l.j → get_or l.words i 0 ≡ 0
