-- The word is one of the beginning of what follows `at`.
use Rattle.std.proofs.Common.{◌+◌, ◌-◌, ◌*◌, ◌^◌, ◌<◌, subst, take, drop, ap, sym, ◌∙◌, arith}
use Rattle.std.proofs.lemmas.List.{drop-drop, length-drop}
use Rattle.gc_bytes.specs.Text.{bytes_of, bytes_number}
use Rattle.gc_bytes.proofs.Digits.{length-bytes_of}
use Rattle.gc_bytes.proofs.Joined.{bytes_are, final_part, inner_part, number_bounded}
use Rattle.gc_bytes.proofs.parts.part_word.Goals as goal

pub returns-then-left-gt7-clause-word : goal.returns-then-left-gt7-clause-word
returns-then-left-gt7-clause-word c =
    let bs = bytes_of c.args.words.now in
    let l = length-bytes_of c.args.words.now in
    let d = length-drop c.args.at bs in
    c.bytes_at.ensures.value ∙ ap (λ xs. bytes_number (take 7 xs)) (sym (drop-drop (7 * c.args.i) c.args.at bs)) ∙ sym (inner_part c.args.count c.args.i (drop c.args.at bs) (omega (arith, c.requires.inside)) c.if-left-gt7.true)

pub returns-else-left-gt7-clause-word : goal.returns-else-left-gt7-clause-word
returns-else-left-gt7-clause-word c =
    let bs = bytes_of c.args.words.now in
    let left = c.args.count - 7 * c.args.i in
    let l = length-bytes_of c.args.words.now in
    let d = length-drop c.args.at bs in
    c.counted.ensures.word
    ∙ ap (λ x. x + 2 ^ 56 * left) (c.bytes_at-else-left-gt7.ensures.value ∙ ap (λ xs. bytes_number (take left xs)) (sym (drop-drop (7 * c.args.i) c.args.at bs)))
    ∙ sym (final_part c.args.count c.args.i (drop c.args.at bs) (omega (arith, c.requires.inside)) c.requires.word (omega (arith, c.if-left-gt7.false)))

pub counted-requires-clause-number : goal.counted-requires-clause-number
counted-requires-clause-number c =
    let left = c.args.count - 7 * c.args.i in
    subst (λ x. x < 2 ^ 56) (sym c.bytes_at-else-left-gt7.ensures.value) (number_bounded left (c.args.at + 7 * c.args.i) (bytes_of c.args.words.now) (bytes_are c.args.words.now) (omega (arith, c.if-left-gt7.false)))
