-- One seat becomes two.
use Rattle.std.proofs.Common.{ℕ, List, ap, sym, subst, arith}
use Rattle.gc_concurrent.specs.Ends.{Theirs}
use Rattle.gc_concurrent.specs.Internal.Knowing.{Knows}
use Rattle.gc_model.specs.Members.{In}
use Rattle.gc_concurrent.specs.Internal.Rule.{Sat}
use Rattle.gc_concurrent.specs.Internal.Following.{Follows}
use Rattle.gc_concurrent.proofs.TiedCells.{tied, tied_words}
use Rattle.gc_concurrent.proofs.Opening.{splits_rule}
use Rattle.gc_concurrent.proofs.held.Held.release.Goals as goal

pub split_seat-seat-requires : goal.split_seat-seat-requires
split_seat-seat-requires c =
    let a = c.args.self.copier in (
      tied _ _ _ c.deref.ensures a.row.0,
      (let w = tied_words _ _ _ _ c.deref.ensures a.row.0 a.row.1 in let l = c.args.self.sound.space.end_low in let h = c.args.self.sound.space.end_high in let e = c.args.self.ended.1 in omega arith),
      splits_rule _ _ _ c.args.self.both a.copies,
    )

pub invariant_of-result-3-clause-fills : goal.invariant_of-result-3-clause-fills
invariant_of-result-3-clause-fills c q k e n = c.args.self.copier.fills q (subst (In q) (ap (λ (m : Sat). m.0.theirs.replicas) c.split_seat-seat.ensures.2) k) e n

pub invariant_of-result-3-clause-along : goal.invariant_of-result-3-clause-along
invariant_of-result-3-clause-along c =
    let a = c.args.self.copier in
    subst (λ ws. ∥ Follows a.standing ws a.space.words ∥₁) (sym (ap (λ (m : Sat). m.0.seen) c.split_seat-seat.ensures.2)) a.along

pub invariant_of-result-3-clause-knows : goal.invariant_of-result-3-clause-knows
invariant_of-result-3-clause-knows c =
    let a = c.args.self.copier in
    let split = c.split_seat-seat.ensures.2 in
    subst (λ (z : List ℕ × Theirs). ∥ Knows a.standing z.0 a.space.words z.1 ∥₁) (λ i. (sym (ap (λ (m : Sat). m.0.seen) split) i, sym (ap (λ (m : Sat). m.0.theirs) split) i)) a.knows
