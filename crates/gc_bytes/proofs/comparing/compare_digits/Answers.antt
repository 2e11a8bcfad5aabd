-- Words with the same low bytes have the same digits.
use Rattle.std.proofs.Common.{◌≡◌, ap, sym, ◌∙◌}
use Rattle.gc_bytes.specs.Text.{digits}
use Rattle.gc_bytes.proofs.Digits.{digits_below}
use Rattle.gc_bytes.proofs.Orders.{order, order_same}
use Rattle.gc_bytes.proofs.comparing.compare_digits.Goals as goal

pub returns-then-low : goal.returns-then-low
returns-then-low c =
    let a = c.args.a in
    let b = c.args.b in
    let k = c.args.k in
    let same : digits k a ≡ digits k b = digits_below k a ∙ ap (digits k) (sym c.low.ensures.value ∙ c.if-low.true ∙ c.low-2.ensures.value) ∙ sym (digits_below k b) in
    sym (ap (λ ds. order ds (digits k b)) same ∙ order_same (digits k b))
