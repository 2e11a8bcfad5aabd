-- The bytes lie in one text, or across the end of the first.
use Rattle.std.proofs.Common.{◌≡◌, ◌+◌, ◌-◌, ◌*◌, ◌^◌, ◌<◌, ◌++◌, take, drop, ap, sym, ◌∙◌, subst, arith}
use Rattle.gc_bytes.specs.Text.{AreBytes, bytes_of, bytes_number}
use Rattle.gc_bytes.proofs.Digits.{length-bytes_of}
use Rattle.gc_bytes.proofs.Spelled.{bytes_parted}
use Rattle.gc_bytes.proofs.Joined.{across_both, across_one, across_other, bytes_are, joined_are, number_bounded}
use Rattle.gc_bytes.proofs.parts.bytes_across.Goals as goal
use Rattle.gc_bytes.proofs.parts.bytes_across.Goals.{After-raised}

pub returns-then-at-n-clause-value : goal.returns-then-at-n-clause-value
returns-then-at-n-clause-value c =
    let l = length-bytes_of c.args.one.now in
    c.bytes_at.ensures.value ∙ ap bytes_number (across_one c.args.count (bytes_of c.args.one.now) (bytes_of c.args.other.now) (omega (arith, c.requires.one)) c.args.n c.args.at c.if-at-n.true)

pub returns-then-at-n-clause-small : goal.returns-then-at-n-clause-small
returns-then-at-n-clause-small c = subst (λ x. x < 2 ^ 56) (sym c.bytes_at.ensures.value) (number_bounded c.args.n c.args.at (bytes_of c.args.one.now) (bytes_are c.args.one.now) c.requires.within)

pub returns-then-at-count-clause-value : goal.returns-then-at-count-clause-value
returns-then-at-count-clause-value c =
    let l = length-bytes_of c.args.one.now in
    c.bytes_at-then-at-count.ensures.value ∙ ap bytes_number (across_other c.args.count (bytes_of c.args.one.now) (bytes_of c.args.other.now) (omega (arith, c.requires.one)) c.args.n c.args.at c.if-at-count.true)

pub returns-then-at-count-clause-small : goal.returns-then-at-count-clause-small
returns-then-at-count-clause-small c = subst (λ x. x < 2 ^ 56) (sym c.bytes_at-then-at-count.ensures.value) (number_bounded c.args.n (c.args.at - c.args.count) (bytes_of c.args.other.now) (bytes_are c.args.other.now) c.requires.within)

sum : (c : After-raised) → c.bytes_at-else-at-count.result + c.raised.result ≡ bytes_number (take c.args.n (drop c.args.at (take c.args.count (bytes_of c.args.one.now) ++ bytes_of c.args.other.now)))
sum c =
    let l = length-bytes_of c.args.one.now in
    let k = c.args.count - c.args.at in
    ap (λ x. x + c.raised.result) c.bytes_at-else-at-count.ensures.value
    ∙ ap (λ x. bytes_number (take k (drop c.args.at (bytes_of c.args.one.now))) + x) (c.raised.ensures ∙ ap (λ x. x * 2 ^ (8 * k)) c.bytes_at-else-at-count-2.ensures.value)
    ∙ across_both c.args.count (bytes_of c.args.one.now) (bytes_of c.args.other.now) (omega (arith, c.requires.one)) c.args.n c.args.at (omega (arith, c.if-at-count.false)) (omega (arith, c.if-at-n.false))

small : (c : After-raised) → c.bytes_at-else-at-count.result + c.raised.result < 2 ^ 56
small c =
    let both : AreBytes (take c.args.count (bytes_of c.args.one.now) ++ bytes_of c.args.other.now) = joined_are (take c.args.count (bytes_of c.args.one.now)) (bytes_of c.args.other.now) (bytes_parted c.args.count (bytes_of c.args.one.now) (bytes_are c.args.one.now)).0 (bytes_are c.args.other.now) in
    subst (λ x. x < 2 ^ 56) (sym (sum c)) (number_bounded c.args.n c.args.at (take c.args.count (bytes_of c.args.one.now) ++ bytes_of c.args.other.now) both c.requires.within)

pub overflow_add-result : goal.overflow_add-result
overflow_add-result c = let below = small (goal.at.overflow_add-result c).After-raised in omega arith

pub returns-else-at-count-clause-value : goal.returns-else-at-count-clause-value
returns-else-at-count-clause-value c = sum (goal.at.returns-else-at-count-clause-value c).After-raised

pub returns-else-at-count-clause-small : goal.returns-else-at-count-clause-small
returns-else-at-count-clause-small c = small (goal.at.returns-else-at-count-clause-small c).After-raised
