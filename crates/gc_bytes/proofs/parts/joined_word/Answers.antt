-- The word is one of the beginning of both lists of bytes, one behind the other.
use Rattle.std.proofs.Common.{◌+◌, ◌-◌, ◌*◌, ◌^◌, ◌≤◌, ◌++◌, length, get_or, take, ap, sym, ◌∙◌, arith}
use Rattle.std.proofs.lemmas.List.{length-append, length-take-le}
use Rattle.gc_bytes.specs.Text.{bytes_of, spelled}
use Rattle.gc_bytes.proofs.Digits.{length-bytes_of}
use Rattle.gc_bytes.proofs.Joined.{behind, final_part, inner_part}
use Rattle.gc_bytes.proofs.parts.joined_word.Goals as goal

pub returns-then-left-gt7-clause-word : goal.returns-then-left-gt7-clause-word
returns-then-left-gt7-clause-word c =
    let one = bytes_of c.args.one.now in
    let l = length-bytes_of c.args.one.now in
    let other = bytes_of c.args.other.now in
    let m = length-bytes_of c.args.other.now in
    let within : c.args.count ≤ length one = omega (arith, c.requires.one) in
    let t = length-take-le c.args.count one within in
    let a = length-append (take c.args.count one) other in
    c.bytes_across.ensures.value
    ∙ sym (ap (λ bs. get_or (spelled bs) c.args.i 0) (behind c.args.count one other within c.args.more) ∙ inner_part (c.args.count + c.args.more) c.args.i (take c.args.count one ++ other) (omega (arith, c.requires.other)) c.if-left-gt7.true)

pub returns-else-left-gt7-clause-word : goal.returns-else-left-gt7-clause-word
returns-else-left-gt7-clause-word c =
    let one = bytes_of c.args.one.now in
    let other = bytes_of c.args.other.now in
    let left = c.args.count + c.args.more - 7 * c.args.i in
    let l = length-bytes_of c.args.one.now in
    let within : c.args.count ≤ length one = omega (arith, c.requires.one) in
    let t = length-take-le c.args.count one within in
    let m = length-bytes_of c.args.other.now in
    let a = length-append (take c.args.count one) other in
    c.counted.ensures.word
    ∙ ap (λ x. x + 2 ^ 56 * left) c.bytes_across-else-left-gt7.ensures.value
    ∙ sym (ap (λ bs. get_or (spelled bs) c.args.i 0) (behind c.args.count one other within c.args.more) ∙ final_part (c.args.count + c.args.more) c.args.i (take c.args.count one ++ other) (omega (arith, c.requires.other)) c.requires.word (omega (arith, c.if-left-gt7.false)))
