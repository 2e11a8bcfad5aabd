-- A turn compares one word more.
use Rattle.std.proofs.Common.{◌≡◌, ◌+◌, ◌*◌, ◌/◌, drop, take, ap, sym, ◌∙◌, arith}
use Rattle.std.specs.Ordering.{ordering_then}
use Rattle.std.specs.declared.cmp.Ordering.{Ordering}
use Rattle.gc_bytes.specs.Text.{bytes_of}
use Rattle.gc_bytes.proofs.Orders.{decided, order, order_part}
use Rattle.gc_bytes.proofs.comparing.compare_bytes.Goals as goal
use Rattle.gc_bytes.proofs.comparing.compare_bytes.Goals.{After-compare_digits-order}

-- behind the word
rest : After-compare_digits-order → Ordering
rest c =
    let k = 7 * c.loop-w.w + 7 in
    order (drop k (take c.args.n (bytes_of c.args.one.now))) (drop k (take c.args.m (bytes_of c.args.other.now)))

split : (c : After-compare_digits-order) → ordering_then c.compare_digits-order.result (rest c) ≡ order (take c.args.n (bytes_of c.args.one.now)) (take c.args.m (bytes_of c.args.other.now))
unfolding rest
split c =
    ap (λ o. ordering_then o (rest c)) c.compare_digits-order.ensures
    ∙ sym (order_part c.args.one.now c.args.other.now c.args.n c.args.m c.requires.one c.requires.other c.loop-w.w 7 (omega arith) (omega arith) (omega (arith, c.loop-w-test.true, c.min-common.ensures)) (omega (arith, c.loop-w-test.true, c.min-common.ensures)))
    ∙ c.loop-w.invariant

pub returns-in_default : goal.returns-in_default
returns-in_default c =
    let one = (goal.at.returns-in_default c).After-compare_digits-order in
    sym (decided c.compare_digits-order.result (rest one) c.in_default.not-Equal) ∙ split one

pub loop-w-preserved : goal.loop-w-preserved
unfolding rest
loop-w-preserved c =
    let one = (goal.at.loop-w-preserved c).After-compare_digits-order in
    ap (λ k. order (drop k (take c.args.n (bytes_of c.args.one.now))) (drop k (take c.args.m (bytes_of c.args.other.now)))) (let e : 7 * (c.loop-w.w + 1) ≡ 7 * c.loop-w.w + 7 = omega arith in e)
    ∙ ap (λ o. ordering_then o (rest one)) (sym c.in-Equal.is)
    ∙ split one

pub returns : goal.returns
returns c =
    c.compare_ends.ensures
    ∙ ap (λ w. order (drop (7 * w) (take c.args.n (bytes_of c.args.one.now))) (drop (7 * w) (take c.args.m (bytes_of c.args.other.now)))) (let e : c.min-common.result / 7 ≡ c.loop-w.w = omega (arith, c.loop-w-test.false, c.loop-w.auto.w-end) in e)
    ∙ c.loop-w.invariant
