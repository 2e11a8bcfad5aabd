-- Where all summary words are passed, nothing is marked.
use Rattle.std.proofs.Common.{◌≡◌, arith, subst, false}
use Rattle.gc_words.specs.Marks.{is_marked}
use Rattle.gc_roots.proofs.Rows.{none_due}
use Rattle.gc_roots.proofs.due.DueRow.first.Goals as goal

pub returns-then-self-len-clause-none : goal.returns-then-self-len-clause-none
returns-then-self-len-clause-none c e k =
    subst (λ bits. is_marked bits k ≡ false) c.self.view_is
    (none_due c.self.inside.bits.items c.self.inside.sums.items c.self.inside.low c.len.result k c.self.invariant (omega arith)
    (λ j from below. absurd (omega (arith, c.if-self-len.true, from, below))))
