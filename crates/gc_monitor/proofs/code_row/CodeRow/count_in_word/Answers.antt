-- If the word is as it is when all these places have code 3, all have it.
use Rattle.std.proofs.Common.{◌≡◌, ◌+◌, ◌-◌, ◌/◌, ◌%◌, get_or, sym, ◌∙◌, ap, subst, arith}
use Rattle.gc_monitor.specs.Internal.InWords.{code_in}
use Rattle.gc_monitor.proofs.Packed.{code_read, seen_length}
use Rattle.gc_monitor.proofs.RowsDue.{all_due}
use Rattle.gc_monitor.proofs.code_row.CodeRow.count_in_word.Goals as goal

pub index-word-requires : goal.index-word-requires
index-word-requires c = omega (arith, c.self.invariant.0.count, c.self.inside.words.ok.0, seen_length _ _ _ _ c.self.view_is)

pub returns-then-filled-word : goal.returns-then-filled-word
returns-then-filled-word c = sym (all_due c.args.count c.args.from c.args.self.now.codes (λ place low high.
    let part : place % 32 ≡ c.args.from % 32 + (place - c.args.from) = omega (arith, low, high, c.requires.word) in
    let here : place / 32 ≡ c.args.from / 32 = omega (arith, low, high, c.requires.word) in
    let three : code_in c.index-word.result.now (place % 32) ≡ 3 = ap (λ w. code_in w (place % 32)) (sym c.if-filled-word.true) ∙ c.filled.ensures.filled (place % 32) (omega (arith, part)) (omega (arith, part, high)) in
    sym (code_read _ _ _ place 3 c.index-word.result.now c.args.self.now c.self.view_is (omega (arith, high, c.requires.within)) (subst (λ p. c.index-word.result.now ≡ get_or c.self.inside.words.items p c.index-word.result.now) (sym here) c.index-word.ensures)
    (omega (arith, here, c.self.invariant.0.count, c.self.inside.words.ok.0, seen_length _ _ _ _ c.self.view_is, c.requires.within, c.requires.some)) (sym three))))
