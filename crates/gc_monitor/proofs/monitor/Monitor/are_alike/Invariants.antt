-- The words before this one stand for each other.
use Rattle.std.proofs.Common.{ℕ, ◌+◌, ◌<◌, IsTrue}
use Rattle.std.specs.Prelude.{slice_index}
use Rattle.gc_words.specs.Word.{field_words_correspond}
use Rattle.gc_monitor.specs.Origins.{pairs_in}
use Rattle.gc_monitor.proofs.monitor.Monitor.are_alike.Given as goal

abbrev pub invariant-loop-k : goal.invariant-loop-k
invariant-loop-k l = (j : ℕ) → j < l.k → IsTrue (field_words_correspond l.header (pairs_in l.self.origins) (slice_index l.old (l.from + j)) (slice_index l.new (l.place + j)))
