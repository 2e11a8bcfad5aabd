-- The bytes fit between those that stay.
use Rattle.std.proofs.Common.{◌≡◌, ◌+◌, ◌-◌, ◌*◌, ◌%◌, ◌^◌, ◌<◌, length, ap, subst, sym, ◌∙◌, arith}
use Rattle.gc_bytes.specs.Text.{AreBytes, bytes_number}
use Rattle.gc_bytes.specs.Changed.{patched_word}
use Rattle.gc_bytes.proofs.Changed.{bytes_small, patched_is, patched_small}
use Rattle.gc_bytes.proofs.Digits.{bytes_from_index}
use Rattle.gc_bytes.proofs.changing.patched_word.Goals as goal
use Rattle.gc_bytes.proofs.changing.patched_word.Goals.{After-raised, After-number_of}

few : (c : After-number_of) → bytes_number c.args.bytes.now < 2 ^ (8 * length c.args.bytes.now)
few c =
    let bytes : AreBytes c.args.bytes.now = bytes_from_index c.args.bytes.now (λ i. let byte = c.type_inv.bytes i in omega arith) in
    bytes_small c.args.bytes.now bytes

pub raised-requires-clause-number : goal.raised-requires-clause-number
raised-requires-clause-number c = subst (λ n. n < 2 ^ (8 * length c.args.bytes.now)) (sym c.number_of.ensures.value) (few (goal.at.raised-requires-clause-number c).After-number_of)

is : (c : After-raised) → c.args.word - c.low.result + c.low-2.result + c.raised.result ≡ patched_word c.args.word c.args.at c.args.bytes.now
is c =
    let at = c.args.at in
    ap (λ x. c.args.word - x + c.low-2.result + c.raised.result) c.low.ensures.value
    ∙ ap (λ x. c.args.word - c.args.word % 2 ^ (8 * (at + length c.args.bytes.now)) + x + c.raised.result) c.low-2.ensures.value
    ∙ patched_is c.args.word at (length c.args.bytes.now) (bytes_number c.args.bytes.now) c.raised.result (c.raised.ensures ∙ ap (λ n. n * 2 ^ (8 * at)) c.number_of.ensures.value)

small : (c : After-raised) → patched_word c.args.word c.args.at c.args.bytes.now < 2 ^ 63
small c = patched_small c.args.word c.args.at (length c.args.bytes.now) (bytes_number c.args.bytes.now) c.requires.within c.requires.number (few (goal.at.overflow_add-result c).After-number_of)

pub overflow_add-result : goal.overflow_add-result
overflow_add-result c = let one = (goal.at.overflow_add-result c).After-raised in let e = is one in let s = small one in omega arith

pub returns-clause-word : goal.returns-clause-word
returns-clause-word c = is (goal.at.returns-clause-word c).After-raised

pub returns-clause-number : goal.returns-clause-number
returns-clause-number c = let one = (goal.at.returns-clause-number c).After-raised in subst (λ x. x < 2 ^ 63) (sym (is one)) (small one)
