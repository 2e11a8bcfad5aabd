-- The words so far spell numbers, so all words do exactly if the rest do.
use Rattle.std.proofs.Common.{◌≡◌, drop}
use Rattle.std.specs.List.{list_all}
use Rattle.gc_graph.specs.Machine.{is_number}
use Rattle.gc_words.specs.Word.{value_of}
use Rattle.gc_collected.proofs.copying.are_numbers.Given as goal

-- the words so far are numbers
abbrev pub invariant-loop-k : goal.invariant-loop-k
invariant-loop-k l = list_all (λ w. is_number (value_of w)) (drop l.k l.words) ≡ list_all (λ w. is_number (value_of w)) l.words
