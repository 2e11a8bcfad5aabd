-- Any load tells it.
use Rattle.std.proofs.Common.{ℕ, refl, ap, sym, subst, arith}
use Rattle.gc_concurrent.specs.Ends.{Theirs}
use Rattle.gc_concurrent.specs.Internal.Knowing.{Knows}
use Rattle.gc_concurrent.proofs.Known.{knows_caught}
use Rattle.gc_concurrent.proofs.Knowing.{keeps_brings}
use Rattle.gc_model.specs.Members.{In}
use Rattle.gc_concurrent.specs.Internal.Rule.{Sat}
use Rattle.gc_concurrent.specs.Internal.Following.{Follows, WroteEach}
use Rattle.gc_concurrent.proofs.Comparing.{along_caught}
use Rattle.gc_concurrent.proofs.TiedCells.{tied, tied_words}
use Rattle.gc_concurrent.proofs.Flip.{flips_rule}
use Rattle.gc_concurrent.proofs.copier.Copier.look.Goals as goal

pub load-requires : goal.load-requires
load-requires c =
    let a = c.args.self.now in (
      tied _ _ _ c.deref-cells.ensures a.row.0,
      (let w = tied_words _ _ _ _ c.deref-cells.ensures a.row.0 a.row.1 in let l = c.requires.low in omega arith),
      flips_rule _ _ _ _ _ c.requires.both a.copies,
    )

pub invariant_of-self-clause-fills : goal.invariant_of-self-clause-fills
invariant_of-self-clause-fills c q k e n = c.args.self.now.fills q (subst (In q) (ap (λ (m : Sat). m.0.theirs.replicas) c.load.ensures.2.0) k) e n

pub invariant_of-self-clause-along : goal.invariant_of-self-clause-along
invariant_of-self-clause-along c =
    let a = c.args.self.now in
    subst (λ (m : Sat). ∥ Follows a.standing m.0.seen a.space.words ∥₁) (sym c.load.ensures.2.0) a.along

pub returns-clause-along : goal.returns-clause-along
returns-clause-along c empty =
    let a = c.args.self.now in
    along_caught a a.seat.me.0 a.standing refl refl c.load.ensures.2.1 (λ l. l) (λ _. subst (λ xs. WroteEach xs a.standing a.standing) (sym empty) refl)

pub invariant_of-self-clause-knows : goal.invariant_of-self-clause-knows
invariant_of-self-clause-knows c =
    let a = c.args.self.now in
    subst (λ (m : Sat). ∥ Knows a.standing m.0.seen a.space.words m.0.theirs ∥₁) (sym c.load.ensures.2.0) a.knows

pub returns-clause-knows : goal.returns-clause-knows
returns-clause-knows c empty =
    let a = c.args.self.now in
    let t : Theirs = a.seat.me.0.theirs in
    knows_caught a a.seat.me.0 a.standing t refl refl c.load.ensures.2.1 (subst (λ xs. WroteEach xs a.standing a.standing) (sym empty) refl) a.loose (keeps_brings t) refl (λ x i there. absurd (subst (In {X = ℕ × ℕ} (x, i)) empty there))
