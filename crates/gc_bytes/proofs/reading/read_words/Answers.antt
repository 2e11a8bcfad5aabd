-- A turn copies seven bytes more, and at the end the others of one word are.
use Rattle.std.proofs.Common.{◌≡◌, ◌+◌, ◌-◌, ◌*◌, ◌/◌, ◌<◌, ◌++◌, get_or, ap, sym, ◌∙◌, take, drop, length, arith}
use Rattle.std.proofs.lemmas.Slice.{take-put_mid}
use Rattle.std.proofs.lemmas.List.{append-nil, drop_all, length-drop, take_all, take_rest}
use Rattle.gc_bytes.specs.Text.{bytes_of, digits}
use Rattle.gc_bytes.proofs.Digits.{bytes_more, length-digits}
use Rattle.gc_bytes.proofs.reading.read_words.Goals as goal

pub loop-w-preserved : goal.loop-w-preserved
loop-w-preserved c =
    let w = c.loop-w.w in
    let out = c.loop-w.out in
    let word = get_or c.args.words.now w 0 in
    let ys = c.write_whole.new.out in
    let seven : length ys ≡ 7 = ap length c.write_whole.ensures ∙ length-digits 7 word in
    let within : w < length c.args.words.now = omega (arith, c.requires.inside, c.loop-w-test.true) in
    take-put_mid (7 * w) (7 * w + 7 - 7 * w) out ys (7 * (w + 1)) (omega arith) (omega (arith, c.loop-w.auto.out, c.loop-w-test.true))
    ∙ ap (λ front. front ++ ys) c.loop-w.invariant
    ∙ ap (λ more. take (7 * w) (bytes_of c.args.words.now) ++ more) c.write_whole.ensures
    ∙ sym (bytes_more c.args.words.now w 7 (omega arith) within)
    ∙ ap (λ n. take n (bytes_of c.args.words.now)) (let e : 7 * w + 7 ≡ 7 * (w + 1) = omega arith in e)

pub returns-then-out-whole : goal.returns-then-out-whole
returns-then-out-whole c =
    let n = length c.args.out.now in
    let w = n / 7 in
    let out = c.loop-w.out in
    let word = get_or c.args.words.now w 0 in
    let ys = c.write_digits.new.out in
    let left : length (take (length out - 7 * w) (drop (7 * w) out)) ≡ n - 7 * w = ap length (take_rest out (7 * w)) ∙ length-drop (7 * w) out ∙ ap (λ k. k - 7 * w) c.loop-w.auto.out in
    ap (λ zs. take (7 * w) out ++ (ys ++ zs)) (drop_all (length out - 7 * w) (drop (7 * w) out) (let l = length-drop (7 * w) out in omega arith))
    ∙ ap (λ zs. take (7 * w) out ++ zs) (append-nil ys ∙ c.write_digits.ensures ∙ ap (λ k. digits k word) left)
    ∙ ap (λ front. front ++ digits (n - 7 * w) word) (ap (λ k. take k out) (sym same) ∙ c.loop-w.invariant ∙ ap (λ k. take k (bytes_of c.args.words.now)) same)
    ∙ sym (bytes_more c.args.words.now w (n - 7 * w) (omega arith) (omega (arith, c.requires.inside, c.if-out-whole.true, c.loop-w.auto.out)))
    ∙ ap (λ k. take k (bytes_of c.args.words.now)) (let e : 7 * w + (n - 7 * w) ≡ n = omega arith in e)
  where
    same : 7 * c.loop-w.w ≡ 7 * (length c.args.out.now / 7)
    same = omega (arith, c.loop-w-test.false, c.loop-w.auto.w-end)

pub returns-else-out-whole : goal.returns-else-out-whole
returns-else-out-whole c =
    let n = length c.args.out.now in
    sym (take_all (7 * c.loop-w.w) c.loop-w.out (omega (arith, c.if-out-whole.false, c.loop-w-test.false)))
    ∙ c.loop-w.invariant
    ∙ ap (λ k. take k (bytes_of c.args.words.now)) (let e : 7 * c.loop-w.w ≡ n = omega (arith, c.if-out-whole.false, c.loop-w-test.false, c.loop-w.auto.out, c.loop-w.auto.w-end) in e)
