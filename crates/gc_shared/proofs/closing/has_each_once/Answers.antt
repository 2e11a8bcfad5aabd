-- Each turn finds a number that one seat has, or shows that the seats do not have each number once.
use Rattle.std.proofs.Common.{below_more, sym, ◌∙◌, arith, refl}
use Rattle.std.proofs.lemmas.Bool.{false≢true}
use Rattle.gc_shared.proofs.closing.has_each_once.Goals as goal

pub returns-then-count_with-ne1 : goal.returns-then-count_with-ne1
returns-then-count_with-ne1 c = (λ h. absurd (false≢true h), λ h. absurd (c.if-count_with-ne1.true (c.count_with.ensures ∙ h.1 c.loop-number.number (omega arith))))

pub loop-number-preserved : goal.loop-number-preserved
loop-number-preserved c = (c.loop-number.invariant.0, below_more _ _ c.loop-number.invariant.1 (sym c.count_with.ensures ∙ c.if-count_with-ne1.false))

pub returns : goal.returns
returns c = (λ h. (c.loop-number.invariant.0, λ s lt. c.loop-number.invariant.1 s (omega arith)), λ h. refl)
