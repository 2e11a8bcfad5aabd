-- The word is the first one, the last one, or one between both that changes whole.
use Rattle.std.proofs.Common.{◌≡◌, ◌-◌, ◌*◌, ◌<◌, ◌≤◌, ℕ, List, length, get_or, min, take, ap, subst, sym, ◌∙◌, arith}
use Rattle.std.proofs.lemmas.List.{take_min, take_rest}
use Rattle.gc_bytes.specs.Text.{bytes_number}
use Rattle.gc_bytes.specs.Changed.{changed_count, changed_word, patched_word}
use Rattle.gc_bytes.proofs.Changed.{changed_length, changed_word_at, first_of_all, last_of_all, whole_of_all}
use Rattle.gc_bytes.proofs.changing.ChangedWords.word.Goals as goal
use Rattle.gc_bytes.proofs.changing.ChangedWords.word.Goals.{After-self}

inside : (c : After-self) → c.args.i < changed_count c.self.inside.skip c.self.inside.bytes.now
inside c = let i = c.self.inside in let l = sym (changed_length i.first i.last i.skip i.bytes.now) ∙ ap length c.self.view_is in omega (arith, l, c.requires)

is : (c : After-self) → changed_word c.self.inside.first c.self.inside.last c.self.inside.skip c.self.inside.bytes.now c.args.i ≡ get_or c.args.self.now c.args.i 0
is c = let x = c.self.inside in sym (changed_word_at x.first x.last x.skip x.bytes.now c.args.i (inside c)) ∙ ap (λ ws. get_or ws c.args.i 0) c.self.view_is

pub returns-then-i-eq0-clause-word : goal.returns-then-i-eq0-clause-word
returns-then-i-eq0-clause-word c =
    let x = c.self.inside in
    let room : c.min-front.result ≡ min (7 - x.skip) (length x.bytes.now) = omega (arith, c.min-front.ensures) in
    c.patched_word.ensures.word
    ∙ ap (patched_word x.first x.skip) (ap (λ k. take k x.bytes.now) room ∙ take_min (7 - x.skip) x.bytes.now)
    ∙ sym (first_of_all x.first x.last x.skip x.bytes.now c.args.i c.if-i-eq0.true)
    ∙ is (goal.at.returns-then-i-eq0-clause-word c).After-self

pub overflow_mul-from : goal.overflow_mul-from
overflow_mul-from c = let i = inside (goal.at.overflow_mul-from c).After-self in omega (arith, i, c.self.invariant, c.self.told)

pub overflow_sub-from : goal.overflow_sub-from
overflow_sub-from c = let v = c.self.invariant in let h = v.0 in omega (arith, h, c.if-i-eq0.false)

pub slice_bounds-rest-count : goal.slice_bounds-rest-count
slice_bounds-rest-count c = let i = inside (goal.at.slice_bounds-rest-count c).After-self in omega (arith, i, c.if-i-eq0.false)

pub slice_bounds-rest-start : goal.slice_bounds-rest-start
slice_bounds-rest-start c = let i = inside (goal.at.slice_bounds-rest-start c).After-self in omega (arith, i, c.if-i-eq0.false)

pub returns-then-rest-gt7-clause-word : goal.returns-then-rest-gt7-clause-word
returns-then-rest-gt7-clause-word c =
    let x = c.self.inside in
    let rest = take_rest x.bytes.now (7 * c.args.i - x.skip) in
    c.whole_word.ensures.word
    ∙ ap (λ xs. bytes_number (take 7 xs)) rest
    ∙ sym (whole_of_all x.first x.last x.skip x.bytes.now c.args.i c.if-i-eq0.false (subst (λ (xs : List ℕ). 7 < length xs) rest c.if-rest-gt7.true))
    ∙ is (goal.at.returns-then-rest-gt7-clause-word c).After-self

pub returns-else-rest-gt7-clause-word : goal.returns-else-rest-gt7-clause-word
returns-else-rest-gt7-clause-word c =
    let x = c.self.inside in
    let from = 7 * c.args.i - x.skip in
    c.patched_word-else-rest-gt7.ensures.word
    ∙ ap (patched_word x.last 0) (take_rest x.bytes.now from)
    ∙ sym (last_of_all x.first x.last x.skip x.bytes.now c.args.i c.if-i-eq0.false (subst (λ (xs : List ℕ). length xs ≤ 7) (take_rest x.bytes.now from) c.if-rest-gt7.false))
    ∙ is (goal.at.returns-else-rest-gt7-clause-word c).After-self
