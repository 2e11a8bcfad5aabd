-- The last word says how many bytes it has.
use Rattle.std.proofs.Common.{◌≡◌, ◌⊎◌, ◌<◌, ◌-◌, ◌/◌, ◌^◌, get_or, length, inl, inr, refl, sym, ◌∙◌, arith}
use Rattle.gc_bytes.proofs.Spelled.{counted_in, counted_none, counted_nothing, counted_some}
use Rattle.gc_bytes.proofs.reading.text_length.Goals as goal

pub returns-then-count-eq0-clause-length : goal.returns-then-count-eq0-clause-length
returns-then-count-eq0-clause-length c = sym (counted_nothing c.args.words.now c.if-count-eq0.true)

pub returns-then-last-eq0-clause-length : goal.returns-then-last-eq0-clause-length
returns-then-last-eq0-clause-length c =
    let n = length c.args.words.now - 1 in
    let last = get_or c.args.words.now n 0 / 2 ^ 56 in
    let out : (last ≡ 0) ⊎ (7 < last) = elim c.then-last-eq0.either [ inl is ↦ inl is | inr more ↦ inr (more.1) ] in
    sym (counted_in c.args.words.now n (omega (arith, c.if-count-eq0.false)) ∙ counted_none n (get_or c.args.words.now n 0 / 2 ^ 56) out)

pub returns-clause-length : goal.returns-clause-length
returns-clause-length c =
    let n = length c.args.words.now - 1 in
    sym (counted_in c.args.words.now n (omega (arith, c.if-count-eq0.false)) ∙ counted_some n (get_or c.args.words.now n 0 / 2 ^ 56) _ (omega (arith, c.if-last-eq0.false)) c.if-last-gt7.false refl)
