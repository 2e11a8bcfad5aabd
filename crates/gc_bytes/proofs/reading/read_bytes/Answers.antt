-- The bytes from the middle of a word on, and then whole words.
use Rattle.std.proofs.Common.{◌≡◌, ◌+◌, ◌-◌, ◌/◌, ◌%◌, ◌*◌, ◌^◌, ◌++◌, get_or, suc, take, drop, length, ap, ◌∙◌, arith}
use Rattle.std.proofs.lemmas.List.{length-drop, take_rest}
use Rattle.gc_bytes.specs.Text.{bytes_of, digits}
use Rattle.gc_bytes.proofs.Digits.{read_even, read_front, read_parts}
use Rattle.gc_bytes.proofs.reading.read_bytes.Goals as goal

pub returns-then-skip-eq0 : goal.returns-then-skip-eq0
returns-then-skip-eq0 c =
    c.read_words.ensures
    ∙ ap (λ ws. take (length c.args.out.now) (bytes_of ws)) (take_rest c.args.words.now (c.args.at / 7))
    ∙ read_even c.args.words.now c.args.at (length c.args.out.now) c.if-skip-eq0.true

pub returns-then-out-skip : goal.returns-then-out-skip
returns-then-out-skip c =
    let words = c.args.words.now in
    let skip = c.args.at % 7 in
    let n = length c.args.out.now in
    let word = get_or words (c.args.at / 7) 0 / 2 ^ (8 * skip) in
    let halves = c.split_at_mut-front.ensures in
    ap (λ front. front ++ c.read_words-then-out-skip.new.out) (c.write_digits.ensures ∙ ap (λ k. digits k word) halves.front_len)
    ∙ ap (λ rest. digits (7 - skip) word ++ rest) (
    c.read_words-then-out-skip.ensures
    ∙ ap (λ k. take k (bytes_of (take (length words - (c.args.at / 7 + 1)) (drop (c.args.at / 7 + 1) words)))) (ap length halves.back ∙ length-drop (7 - skip) c.args.out.now)
    ∙ ap (λ ws. take (n - (7 - skip)) (bytes_of ws)) (take_rest words (c.args.at / 7 + 1) ∙ ap (λ k. drop k words) (let e : c.args.at / 7 + 1 ≡ suc (c.args.at / 7) = omega arith in e))
    )
    ∙ read_parts words c.args.at n (omega (arith, c.if-out-skip.true)) (omega (arith, c.requires.inside, c.if-out-skip.true))

pub returns-then-out-gt0 : goal.returns-then-out-gt0
returns-then-out-gt0 c = c.write_digits-then-out-gt0.ensures ∙ read_front c.args.words.now c.args.at (length c.args.out.now) c.if-out-skip.false (omega (arith, c.requires.inside, c.if-out-gt0.true))
