-- All words are numbers exactly if those so far and the rest are.
use Rattle.std.proofs.Common.{◌≡◌, drop}
use Rattle.std.specs.Prelude.{◌&&◌}
use Rattle.std.specs.List.{list_all}
use Rattle.gc_heap.specs.Raws.{is_number_word}
use Rattle.gc_heap.proofs.reading.are_numbers.Given as goal

abbrev pub invariant-loop-k : goal.invariant-loop-k
invariant-loop-k l = (l.so_far && list_all is_number_word (drop l.k l.words)) ≡ list_all is_number_word l.words
