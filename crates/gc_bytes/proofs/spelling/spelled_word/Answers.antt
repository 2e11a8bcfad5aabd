-- The word has the bytes from its first one on: seven, or those that are left.
use Rattle.std.proofs.Common.{◌<◌, ◌≤◌, ◌*◌, List, ℕ, length, take, ap, subst, sym, ◌∙◌}
use Rattle.std.proofs.lemmas.List.{take_rest}
use Rattle.gc_bytes.specs.Text.{last_word, bytes_number}
use Rattle.gc_bytes.proofs.Spelled.{final_word, inner_word}
use Rattle.gc_bytes.proofs.spelling.spelled_word.Goals as goal

pub returns-then-rest-gt7-clause-word : goal.returns-then-rest-gt7-clause-word
returns-then-rest-gt7-clause-word c =
    let rest = take_rest c.args.bytes.now (7 * c.args.i) in
    c.whole_word.ensures.word ∙ ap (λ r. bytes_number (take 7 r)) rest ∙ sym (inner_word c.args.bytes.now c.args.i (subst (λ (r : List ℕ). 7 < length r) rest c.if-rest-gt7.true))

pub returns-else-rest-gt7-clause-word : goal.returns-else-rest-gt7-clause-word
returns-else-rest-gt7-clause-word c =
    let rest = take_rest c.args.bytes.now (7 * c.args.i) in
    c.last_word.ensures.word ∙ ap last_word rest ∙ sym (final_word c.args.bytes.now c.args.i c.requires (subst (λ (r : List ℕ). length r ≤ 7) rest c.if-rest-gt7.false))
