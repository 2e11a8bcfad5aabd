-- The digits at the front are the number if they are its decimal, and otherwise the text begins with no number.
use Rattle.std.proofs.lemmas.Grind.{common_steps}
use Rattle.std.proofs.Common.{arith}
use Rattle.gc_text.proofs.DecimalNumbers.{front_is, front_none}
use Rattle.gc_text.proofs.decimals.front_number.Goals as goal

pub returns-then-is_decimal : goal.returns-then-is_decimal
returns-then-is_decimal c =
    front_is c.args.text.now c.read_digits-end.result.0 c.read_digits-end.result.1 c.read_digits-end.ensures.end c.read_digits-end.ensures.value (c.is_decimal.ensures.0 c.if-is_decimal.true)

pub returns-else-end-gt0 : goal.returns-else-end-gt0
returns-else-end-gt0 c = grind (arith, common_steps, front_none)
