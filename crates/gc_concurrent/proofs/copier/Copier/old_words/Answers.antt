-- The cells are those of the seat, which knows what it knew.
use Rattle.std.proofs.Common.{ap, sym, subst, arith}
use Rattle.gc_model.specs.Members.{In}
use Rattle.gc_concurrent.specs.Internal.Rule.{Sat}
use Rattle.gc_concurrent.specs.Internal.Following.{Follows}
use Rattle.gc_concurrent.specs.Internal.Knowing.{Knows}
use Rattle.gc_concurrent.proofs.TiedCells.{tied, tied_words}
use Rattle.gc_concurrent.proofs.copier.Copier.old_words.Goals as goal

pub loaded-requires-clause-cells : goal.loaded-requires-clause-cells
loaded-requires-clause-cells c = tied _ _ _ c.deref-cells.ensures c.args.self.now.row.0

pub loaded-requires-clause-wide : goal.loaded-requires-clause-wide
loaded-requires-clause-wide c = let w = tied_words _ _ _ _ c.deref-cells.ensures c.args.self.now.row.0 c.args.self.now.row.1 in let l = c.requires.fits in omega arith

pub invariant_of-self-clause-fills : goal.invariant_of-self-clause-fills
invariant_of-self-clause-fills c q k e n = c.args.self.now.fills q (subst (In q) (ap (λ (m : Sat). m.0.theirs.replicas) c.loaded.ensures.same) k) e n

pub invariant_of-self-clause-along : goal.invariant_of-self-clause-along
invariant_of-self-clause-along c =
    let a = c.args.self.now in
    subst (λ (m : Sat). ∥ Follows a.standing m.0.seen a.space.words ∥₁) (sym c.loaded.ensures.same) a.along

pub invariant_of-self-clause-knows : goal.invariant_of-self-clause-knows
invariant_of-self-clause-knows c =
    let a = c.args.self.now in
    subst (λ (m : Sat). ∥ Knows a.standing m.0.seen a.space.words m.0.theirs ∥₁) (sym c.loaded.ensures.same) a.knows
