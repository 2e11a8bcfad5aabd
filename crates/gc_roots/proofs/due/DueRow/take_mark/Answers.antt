-- If the word has no mark left, its summary mark goes, and the words of zeros below are passed.
use Rattle.std.proofs.Common.{◌≡◌, ◌/◌, ℕ, List, arith, ap, subst, get_or, length}
use Rattle.gc_roots.proofs.Rows.{lower_row, read_back, unmark_all_by}
use Rattle.gc_roots.proofs.due.DueRow.take_mark.Goals as goal

pub invariant_of-self : goal.invariant_of-self
invariant_of-self c =
    lower_row _ _ c.self.inside.low c.first_word-self-inside.result
    (unmark_all_by c.self.inside.bits.items c.self.inside.sums.items c.self.inside.low c.args.place c.index_mut.result.now c.index_mut-then-index-eq0.result.now c.self.invariant (omega (arith, ap length c.self.view_is)) (read_back c.self.inside.bits.items (c.args.place / 64) c.index_mut.result.now (omega (arith, ap length c.self.view_is)) c.index_mut.ensures.value) (read_back c.self.inside.sums.items (c.args.place / 64 / 64) c.index_mut-then-index-eq0.result.now (omega (arith, ap length c.self.view_is, c.self.invariant.room)) c.index_mut-then-index-eq0.ensures.value) (cc))
    (λ j low less. subst (λ (xs : List ℕ). get_or xs j 0 ≡ 0) c.as_slice.ensures.value (c.first_word-self-inside.ensures.zeros j low less))
