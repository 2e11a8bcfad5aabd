-- A turn compares one digit more.
use Rattle.std.proofs.Common.{◌≡◌, ◌∷◌, ◌+◌, ◌-◌, ◌%◌, ◌/◌, ap, sym, ◌∙◌}
use Rattle.std.specs.Ordering.{nat_cmp, ordering_then}
use Rattle.std.specs.declared.cmp.Ordering.{Ordering}
use Rattle.gc_bytes.specs.Text.{digits}
use Rattle.gc_bytes.proofs.Orders.{decided, digit_step, nat_other, nat_same, no_digit, order}
use Rattle.gc_bytes.proofs.comparing.first_difference.Goals as goal
use Rattle.gc_bytes.proofs.comparing.first_difference.Goals.{In-loop-i}

-- what is left of both, one digit apart
rest : In-loop-i → Ordering
rest c = order (digits (c.args.k - (c.loop-i.i + 1)) (c.loop-i.x / 256)) (digits (c.args.k - (c.loop-i.i + 1)) (c.loop-i.y / 256))

split : (c : In-loop-i) → ordering_then (nat_cmp (c.loop-i.x % 256) (c.loop-i.y % 256)) (rest c) ≡ order (digits c.args.k c.args.a) (digits c.args.k c.args.b)
unfolding rest
split c =
    sym (
    ap (λ xs. order xs (digits (c.args.k - c.loop-i.i) c.loop-i.y)) (digit_step c.args.k c.loop-i.i c.loop-i.x c.loop-i-test.true)
    ∙ ap (λ ys. order (c.loop-i.x % 256 ∷ digits (c.args.k - (c.loop-i.i + 1)) (c.loop-i.x / 256)) ys) (digit_step c.args.k c.loop-i.i c.loop-i.y c.loop-i-test.true)
    )
    ∙ c.loop-i.invariant

pub returns-then-x-y : goal.returns-then-x-y
returns-then-x-y c =
    let turn = (goal.at.returns-then-x-y c).In-loop-i in
    c.cmp.ensures ∙ sym (decided (nat_cmp (c.loop-i.x % 256) (c.loop-i.y % 256)) (rest turn) (nat_other (c.loop-i.x % 256) (c.loop-i.y % 256) c.if-x-y.true)) ∙ split turn

pub loop-i-preserved : goal.loop-i-preserved
unfolding rest
loop-i-preserved c =
    let turn = (goal.at.loop-i-preserved c).In-loop-i in
    let same = ap (nat_cmp (c.loop-i.x % 256)) (sym c.if-x-y.false) ∙ nat_same (c.loop-i.x % 256) in
    ap (λ o. ordering_then o (rest turn)) (sym same) ∙ split turn

pub returns : goal.returns
returns c = sym (no_digit c.args.k c.loop-i.i c.loop-i.x c.loop-i.y c.loop-i-test.false) ∙ c.loop-i.invariant
