-- All words of the row are written.
use Rattle.std.proofs.Common.{◌+◌, ◌≤◌, inl, inr, ⊎_elim, arith}
use Rattle.gc_monitor.proofs.RowsDue.{row_is_set}
use Rattle.gc_monitor.proofs.code_row.CodeRow.set_from.Goals as goal

pub returns-clause-codes : goal.returns-clause-codes
returns-clause-codes c = row_is_set _ _ _ _ _ c.loop-from.invariant.len c.requires.within (λ place low high. c.loop-from.invariant.run place low (omega arith))
    (λ place out. c.loop-from.invariant.others place (⊎_elim (λ low. inl low) (λ behind. inr (let all : c.args.first + c.args.count ≤ place = behind in let end : c.loop-from.from ≤ c.args.first + c.args.count = c.loop-from.invariant.high in omega arith)) out))
