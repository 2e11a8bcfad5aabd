-- The header of the target is read.
use Rattle.std.proofs.Common.{◌≡◌, ℕ, List, refl, ap, sym, ◌∙◌, subst, arith}
use Rattle.gc_concurrent.specs.Internal.Rule.{Loose, Sat}
use Rattle.gc_concurrent.specs.Internal.Following.{Follows, WroteEach}
use Rattle.gc_concurrent.proofs.TiedCells.{tied, tied_words}
use Rattle.gc_concurrent.proofs.Joined.{roots_rule}
use Rattle.gc_concurrent.proofs.Comparing.{along_caught}
use Rattle.gc_model.specs.Members.{In}
use Rattle.gc_concurrent.specs.Ends.{Theirs}
use Rattle.gc_concurrent.specs.Internal.Rule.{wants}
use Rattle.gc_concurrent.specs.Internal.Knowing.{Knows}
use Rattle.gc_concurrent.proofs.Knowing.{wants_brings}
use Rattle.gc_concurrent.proofs.Known.{knows_caught}
use Rattle.gc_concurrent.proofs.copier.Copier.want.Goals as goal

pub load-requires : goal.load-requires
load-requires c =
    let a = c.args.self.now in
    let r = c.requires.root in (
      tied _ _ _ c.deref-cells.ensures a.row.0,
      (let w = tied_words _ _ _ _ c.deref-cells.ensures a.row.0 a.row.1 in let l = c.requires.low in omega arith),
      roots_rule _ _ _ _ r.0 _ c.requires.both a.copies c.requires.taken r.1 r.2 c.requires.allowed,
    )

pub invariant_of-self-clause-along : goal.invariant_of-self-clause-along
invariant_of-self-clause-along c =
    let a = c.args.self.now in
    subst (λ ws. ∥ Follows a.standing ws a.space.words ∥₁) (sym (ap (λ (m : Sat). m.0.seen) c.load.ensures.2.0.0))
    (along_caught a a.seat.me.0 a.standing refl refl c.load.ensures.2.0.1 (λ l. l) (λ _. subst (λ xs. WroteEach xs a.standing a.standing) (sym c.requires.taken) refl))

pub invariant_of-self-clause-knows : goal.invariant_of-self-clause-knows
invariant_of-self-clause-knows c =
    let a = c.args.self.now in
    let went = c.load.ensures.2.0.0 in
    let u : Theirs = wants c.args.at.0 a.seat.me.0.theirs in
    let is : c.load.new.seat.me.0.theirs ≡ u = ap (λ (m : Sat). m.0.theirs) went in
    let loose = subst (λ (t : Theirs). ∥ Loose t ∥₁) is (c.load.ensures.2.1 (ap (λ (m : Sat). m.0.copies) went ∙ a.copies)) in
    subst (λ (z : List ℕ × Theirs). ∥ Knows a.standing z.0 a.space.words z.1 ∥₁) (λ i. (sym (ap (λ (m : Sat). m.0.seen) went) i, sym is i))
    (knows_caught a a.seat.me.0 a.standing u refl refl c.load.ensures.2.0.1 (subst (λ xs. WroteEach xs a.standing a.standing) (sym c.requires.taken) refl) loose (wants_brings c.args.at.0 a.seat.me.0.theirs) refl
    (λ x i there. absurd (subst (In {X = ℕ × ℕ} (x, i)) c.requires.taken there)))
