-- The first summary mark tells the first word of marks, and no earlier word has one.
use Rattle.std.proofs.Common.{◌≡◌, ℕ, arith, subst, get_or, List, false}
use Rattle.gc_words.specs.Marks.{is_marked}
use Rattle.gc_roots.proofs.Rows.{none_due, first_due}
use Rattle.gc_roots.proofs.due.DueRow.first_mark.Goals as goal
use Rattle.gc_roots.proofs.due.DueRow.first_mark.Goals.{Then-at-len, After-place_in}

pub returns-then-at-len-clause-none : goal.returns-then-at-len-clause-none
returns-then-at-len-clause-none c e k =
    subst (λ bits. is_marked bits k ≡ false) c.self.view_is
    (none_due c.self.inside.bits.items c.self.inside.sums.items c.self.inside.low c.first_word-at.result k c.self.invariant (omega (arith, c.self.inside.sums.ok.0))
    (λ j low less. subst (λ (xs : List ℕ). get_or xs j 0 ≡ 0) c.as_slice.ensures.value (c.first_word-at.ensures.zeros j low less)))

pub returns-clause-before : goal.returns-clause-before
returns-clause-before c i less =
    subst (λ bits. is_marked bits i ≡ false) c.self.view_is
    (first_due c.self.inside.bits.items c.self.inside.sums.items c.self.inside.low c.first_word-at.result c.place_in-word.result c.place_in.result i c.self.invariant
    (λ j low l. subst (λ (xs : List ℕ). get_or xs j 0 ≡ 0) c.as_slice.ensures.value (c.first_word-at.ensures.zeros j low l))
    c.place_in-word.ensures.at (λ w at l. subst (λ (xs : List ℕ). is_marked xs w ≡ false) c.as_slice-2.ensures.value (c.place_in-word.ensures.before w at l))
    c.place_in.ensures.at (λ w at l. subst (λ (xs : List ℕ). is_marked xs w ≡ false) c.as_slice-3.ensures.value (c.place_in.ensures.before w at l)) less)
