-- Only the same bytes compare as equal.
use Rattle.std.proofs.Common.{◌≡◌, true, false, ap, sym, ◌∙◌}
use Rattle.gc_bytes.proofs.Orders.{equal_same, order, order_same}
use Rattle.gc_bytes.proofs.text.Text.is_same.Goals as goal

pub returns-in-Equal-clause-same : goal.returns-in-Equal-clause-same
returns-in-Equal-clause-same c = λ yes. equal_same c.args.self.now c.args.other.now (sym c.compare.ensures ∙ c.in-Equal.is)

pub returns-in_default : goal.returns-in_default
returns-in_default c = record {
  same = λ no. absurd (let bad : false ≡ true = no in cc);
  other = λ no same. c.in_default.not-Equal (c.compare.ensures ∙ ap (order c.args.self.now) (sym same) ∙ order_same c.args.self.now);
}
