-- All codes are in one word, which is written once.
use Rattle.gc_monitor.proofs.RowsDue.{row_is_set}
use Rattle.gc_monitor.proofs.code_row.CodeRow.settle.Goals as goal

pub returns-clause-settled : goal.returns-clause-settled
returns-clause-settled c = λ yes. row_is_set 0 _ _ c.args.first c.args.count c.set_in_word.ensures.len c.requires.within (λ place low high. c.set_in_word.ensures.run place low high) (λ place out. c.set_in_word.ensures.others place out)
