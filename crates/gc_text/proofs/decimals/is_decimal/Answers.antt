-- By cases of the first digit: 0 stands alone, and twenty digits that begin with 1 are too many exactly if their value wraps.
use Rattle.std.proofs.lemmas.Grind.{common_steps}
use Rattle.std.proofs.Common.{arith}
use Rattle.gc_text.proofs.DecimalNumbers.{are_first, after_zero, after_others, short_after_one, twenty_after_one, long_after_one}
use Rattle.gc_text.proofs.decimals.is_decimal.Goals as goal

pub returns-in-48 : goal.returns-in-48
returns-in-48 c = after_zero c.args.text.now c.args.count c.requires.some c.in-48.is (are_first c.args.text.now c.args.count c.requires.some c.requires.digits)

pub returns-then-count-lt20 : goal.returns-then-count-lt20
returns-then-count-lt20 c = short_after_one c.args.text.now c.args.count c.requires.some c.in-49.is c.if-count-lt20.true (are_first c.args.text.now c.args.count c.requires.some c.requires.digits)

pub returns-then-count-eq20 : goal.returns-then-count-eq20
returns-then-count-eq20 c = twenty_after_one c.args.text.now c.args.count c.args.wrapped c.in-49.is (omega arith) c.requires.value (are_first c.args.text.now c.args.count c.requires.some c.requires.digits)

pub returns-else-count-eq20 : goal.returns-else-count-eq20
returns-else-count-eq20 c = long_after_one c.args.text.now c.args.count (omega arith) (omega arith) (are_first c.args.text.now c.args.count c.requires.some c.requires.digits)

pub returns-in_default : goal.returns-in_default
returns-in_default c = grind (arith, common_steps, are_first, after_others)
