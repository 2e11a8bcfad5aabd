-- So many fours of zeros are added, and the room stays.
use Rattle.std.proofs.Common.{◌≡◌, ◌*◌, ◌≤◌, ◌++◌, replicate, vec_capacity}
use Rattle.gc_words.proofs.zeros.add_few.Given as goal

abbrev pub invariant-loop : goal.invariant-loop
invariant-loop l = (l.words.items ≡ l.fn.words.items ++ replicate (4 * l.counter) 0) × (vec_capacity l.fn.words ≤ vec_capacity l.words)
