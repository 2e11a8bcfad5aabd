-- By the tables' pairs, the first difference is among the words from this one on.
use Rattle.std.proofs.Common.{◌≡◌, drop}
use Rattle.gc_words.specs.Word.{words_correspond}
use Rattle.gc_words.specs.Fault.{first_difference}
use Rattle.gc_check.proofs.tables.Tables.first_difference.Given as goal

-- the first difference is in the rest of the words
abbrev pub invariant-loop-i : goal.invariant-loop-i
invariant-loop-i l = first_difference (words_correspond l.self.pairs) 0 l.old l.new ≡ first_difference (words_correspond l.self.pairs) l.i (drop l.i l.old) (drop l.i l.new)
