-- The bytes of one more word, if there are any, and then the lengths decide.
use Rattle.std.proofs.Common.{◌≡◌, ◌+◌, ◌-◌, ◌*◌, drop, take, ap, sym, ◌∙◌, arith}
use Rattle.std.specs.Ordering.{ordering_then}
use Rattle.std.specs.declared.cmp.Ordering.{Ordering}
use Rattle.gc_bytes.specs.Text.{bytes_of}
use Rattle.gc_bytes.proofs.Orders.{decided, order, order_end, order_part}
use Rattle.gc_bytes.proofs.comparing.compare_ends.Goals as goal
use Rattle.gc_bytes.proofs.comparing.compare_ends.Goals.{After-compare_digits-order}

pub returns-then-left-eq0 : goal.returns-then-left-eq0
returns-then-left-eq0 c = c.cmp.ensures ∙ sym (order_end c.args.one.now c.args.other.now c.args.n c.args.m c.requires.one c.requires.other (7 * c.args.w) (omega (arith, c.requires.word, c.if-left-eq0.true, c.min.ensures)))

-- behind the word
rest : After-compare_digits-order → Ordering
rest c =
    let k = 7 * c.args.w + (c.min.result - 7 * c.args.w) in
    order (drop k (take c.args.n (bytes_of c.args.one.now))) (drop k (take c.args.m (bytes_of c.args.other.now)))

split : (c : After-compare_digits-order) → ordering_then c.compare_digits-order.result (rest c) ≡ order (drop (7 * c.args.w) (take c.args.n (bytes_of c.args.one.now))) (drop (7 * c.args.w) (take c.args.m (bytes_of c.args.other.now)))
unfolding rest
split c =
    let left = c.min.result - 7 * c.args.w in
    ap (λ o. ordering_then o (rest c)) c.compare_digits-order.ensures
    ∙ sym (order_part c.args.one.now c.args.other.now c.args.n c.args.m c.requires.one c.requires.other c.args.w left (omega (arith, c.if-left-eq0.false)) (omega (arith, c.requires.word, c.min.ensures)) (omega (arith, c.requires.word, c.min.ensures)) (omega (arith, c.requires.word, c.min.ensures)))

pub returns-in_default : goal.returns-in_default
returns-in_default c =
    let one = (goal.at.returns-in_default c).After-compare_digits-order in
    sym (decided c.compare_digits-order.result (rest one) c.in_default.not-Equal) ∙ split one

pub returns : goal.returns
unfolding rest
returns c =
    let one = (goal.at.returns c).After-compare_digits-order in
    let k = 7 * c.args.w + (c.min.result - 7 * c.args.w) in
    c.cmp-2.ensures
    ∙ sym (order_end c.args.one.now c.args.other.now c.args.n c.args.m c.requires.one c.requires.other k (omega (arith, c.requires.word, c.min.ensures)))
    ∙ ap (λ o. ordering_then o (rest one)) (sym c.in-Equal.is)
    ∙ split one
