-- One word has the bytes, or two have them.
use Rattle.std.proofs.Common.{◌≡◌, ◌+◌, ◌-◌, ◌*◌, ◌/◌, ◌%◌, ◌^◌, ◌<◌, get_or, take, drop, ap, sym, ◌∙◌, subst, arith}
use Rattle.gc_bytes.specs.Text.{bytes_of, bytes_number}
use Rattle.gc_bytes.proofs.Digits.{number_in_one, number_in_two}
use Rattle.gc_bytes.proofs.Joined.{bytes_are, number_bound, number_bounded}
use Rattle.gc_bytes.proofs.parts.bytes_at.Goals as goal
use Rattle.gc_bytes.proofs.parts.bytes_at.Goals.{After-raised}

pub returns-then-n-eq0-clause-value : goal.returns-then-n-eq0-clause-value
unfolding bytes_number
returns-then-n-eq0-clause-value c = ap (λ n. bytes_number (take n (drop c.args.at (bytes_of c.args.words.now)))) (sym c.if-n-eq0.true)

pub returns-then-n-front-clause-value : goal.returns-then-n-front-clause-value
returns-then-n-front-clause-value c = c.low.ensures.value ∙ number_in_one c.args.words.now c.args.at c.args.n c.if-n-front.true (omega (arith, c.requires.inside, c.if-n-eq0.false))

sum : (c : After-raised) → c.low-else-n-front.result + c.raised.result ≡ bytes_number (take c.args.n (drop c.args.at (bytes_of c.args.words.now)))
sum c =
    ap (λ x. x + c.raised.result) c.low-else-n-front.ensures.value
    ∙ ap (λ x. get_or c.args.words.now (c.args.at / 7) 0 / 2 ^ (8 * (c.args.at % 7)) % 2 ^ (8 * (7 - c.args.at % 7)) + x) (c.raised.ensures ∙ ap (λ x. x * 2 ^ (8 * (7 - c.args.at % 7))) c.low-else-n-front-2.ensures.value)
    ∙ number_in_two c.args.words.now c.args.at c.args.n (omega (arith, c.if-n-front.false)) c.requires.within (omega (arith, c.requires.inside, c.if-n-front.false))

pub overflow_add-result : goal.overflow_add-result
overflow_add-result c =
    let is = sum (goal.at.overflow_add-result c).After-raised in
    let small = number_bounded c.args.n c.args.at (bytes_of c.args.words.now) (bytes_are c.args.words.now) c.requires.within in
    omega arith

pub returns-else-n-front-clause-value : goal.returns-else-n-front-clause-value
returns-else-n-front-clause-value c = sum (goal.at.returns-else-n-front-clause-value c).After-raised

pub returns-else-n-front-clause-small : goal.returns-else-n-front-clause-small
returns-else-n-front-clause-small c = subst (λ x. x < 2 ^ (8 * c.args.n)) (sym (sum (goal.at.returns-else-n-front-clause-small c).After-raised)) (number_bound c.args.n c.args.at (bytes_of c.args.words.now) (bytes_are c.args.words.now))
