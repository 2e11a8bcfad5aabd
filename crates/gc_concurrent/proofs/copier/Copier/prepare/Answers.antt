-- Each claim is 0, as no object has a replica, and the standing checker has seen nothing of the new space.
use Rattle.std.proofs.Common.{◌≡◌, ◌⊎◌, ⊎_elim, ℕ, ◌≤◌, false, true≢false, List, Result, Ok, Err, ap, sym, ◌∙◌, subst, arith}
use Rattle.std.specs.Prelude.{OnOk, is_err}
use Rattle.std.specs.Ordering.{nat_cmp, ord_max}
use Rattle.std.proofs.lemmas.Grind.{common_steps}
use Rattle.std.proofs.lemmas.Bool.{eqb-true}
use Rattle.std.proofs.Math.Logic.{∥∥₁_elim}
use Rattle.std.proofs.Props.{props}
use Rattle.gc_words.specs.Space.{SpaceWords}
use Rattle.gc_monitor.specs.Events.{Freed}
use Rattle.gc_concurrent.specs.Ends.{Theirs}
use Rattle.gc_concurrent.specs.Internal.Knowing.{Knows}
use Rattle.gc_concurrent.proofs.Knowing.{dropped_knows}
use Rattle.gc_concurrent.proofs.Known.{has_room, is_found}
use Rattle.gc_words.specs.Space.{empty_space}
use Rattle.gc_monitor.specs.Tables.{Tables}
use Rattle.gc_concurrent.specs.Internal.Rule.{Sat}
use Rattle.gc_concurrent.specs.Internal.Following.{Follows}
use Rattle.gc_concurrent.proofs.TiedCells.{tied, tied_words}
use Rattle.gc_concurrent.proofs.Memory.{claims_none, old_low}
use Rattle.gc_concurrent.proofs.Following.{through}
use Rattle.gc_concurrent.proofs.Comparing.{along_still, dropped_follows, roomy_follows}
use Rattle.gc_concurrent.proofs.copier.Copier.prepare.Goals as goal
use Rattle.gc_concurrent.proofs.copier.Copier.prepare.Goals.{After-reserve-reserved}

pub restart-requires-clause-cells : goal.restart-requires-clause-cells
restart-requires-clause-cells c = tied _ _ _ c.deref.ensures c.args.self.now.row.0

pub restart-requires-clause-some : goal.restart-requires-clause-some
restart-requires-clause-some c =
    let a = c.args.self.now in
    let w = tied_words _ _ _ _ c.deref.ensures a.row.0 a.row.1 in let l = old_low a.seat.me.0.theirs a.loose in let s = a.sized.0 in omega arith

pub restart-requires-clause-none : goal.restart-requires-clause-none
restart-requires-clause-none c is =
    let a = c.args.self.now in
    claims_none a.claims.items a.seat.me.0.theirs a.space a.same a.claimed (sym c.end.ensures.value ∙ eqb-true c.end.result 1 is)

-- the standing checker is not lost
found : (c : After-reserve-reserved) → c.reserve-reserved.new.self.lost ≡ false
found c = ap (λ (t : Tables). t.lost) c.reserve-reserved.ensures.tables ∙ is_found c.args.self.now

pub restart-requires-clause-found : goal.restart-requires-clause-found
restart-requires-clause-found c = found (goal.at.restart-requires-clause-found c).After-reserve-reserved

pub invariant_of-self-then-is_err-clause-along : goal.invariant_of-self-then-is_err-clause-along
invariant_of-self-then-is_err-clause-along c =
    let a = c.args.self.now in
    subst (λ (t : Tables). ∥ Follows t a.seat.me.0.seen a.space.words ∥₁) (sym c.reserve-reserved.ensures.tables)
    (through a.standing (record a.standing { room = c.reserve-reserved.new.self.room }) a.seat.me.0.seen a.seat.me.0.seen a.space.words a.space.words
    (roomy_follows a.standing c.reserve-reserved.new.self.room a.seat.me.0.seen a.space.words) a.along)

pub invariant_of-self-2-clause-along : goal.invariant_of-self-2-clause-along
invariant_of-self-2-clause-along c =
    let a = c.args.self.now in
    let l = (goal.at.invariant_of-self-2-clause-along c).After-reserve-reserved in
    along_still c.restart.new.standing a.seat.me c.restart.new.seat.me (empty_space c.args.size) c.in_ok-space.space (ap (λ (m : Sat). m.0.seen) c.restart.ensures.begun) c.in_ok-space.ensures.empty
    (dropped_follows c.reserve-reserved.new.self c.restart.new.standing a.seat.me.0.seen a.space.words (λ e. absurd (true≢false (sym e ∙ found l))) (λ _. c.restart.ensures.freed)
    (subst (λ (t : Tables). ∥ Follows t a.seat.me.0.seen a.space.words ∥₁) (sym c.reserve-reserved.ensures.tables)
    (through a.standing (record a.standing { room = c.reserve-reserved.new.self.room }) a.seat.me.0.seen a.seat.me.0.seen a.space.words a.space.words
    (roomy_follows a.standing c.reserve-reserved.new.self.room a.seat.me.0.seen a.space.words) a.along)))

max_high : (a b m : ℕ) → m ≡ ord_max nat_cmp a b → (a ≤ m) × (b ≤ m)
max_high a b m e = grind (arith, common_steps)

-- what a call that did not fail says
of_ok : {A E : Type 0} (r : Result A E) (P : Type 0) → OnOk r P → is_err r ≡ false → P
of_ok (Ok a) P h e = h
of_ok (Err w) P h e = absurd (true≢false e)

pub invariant_of-self-2-clause-knows : goal.invariant_of-self-2-clause-knows
invariant_of-self-2-clause-knows c =
    let a = c.args.self.now in
    let t = a.seat.me.0.theirs in
    let room : ℕ = c.reserve-reserved.new.self.room in
    let went = c.restart.ensures.begun in
    let tables : c.reserve-reserved.new.self ≡ record a.standing { room = room } = c.reserve-reserved.ensures.tables in
    let more : (a.standing.room ≡ 0) ⊎ (c.max.result ≤ room) = of_ok c.reserve-reserved.result _ c.reserve-reserved.ensures.room (sym c.is_err.ensures.value ∙ c.if-is_err.false) in
    let old = old_low t a.loose in
    let has = (has_room a).0 in
    let size = a.sized.0 in
    let enough : c.max.result ≤ room = ⊎_elim (λ z. absurd (omega arith)) (λ l. l) more in
    let largest = max_high c.args.size a.size c.max.result c.max.ensures in
    let first = largest.0 in
    let second = largest.1 in
    subst (λ (z : List ℕ × (List ℕ × Theirs)). ∥ Knows c.restart.new.standing z.0 z.1.0 z.1.1 ∥₁)
    (λ i. (sym (ap (λ (m : Sat). m.0.seen) went) i, (sym (ap (λ (s : SpaceWords). s.words) c.in_ok-space.ensures.empty) i, sym (ap (λ (m : Sat). m.0.theirs) went) i)))
    (∥∥₁_elim a.knows (hlevel props) (λ k.
    ∣ dropped_knows a.standing c.restart.new.standing room a.seat.me.0.seen a.space.words t t.base t.old c.args.size c.restart.ensures.found (subst (λ z. Freed z c.restart.new.standing) tables c.restart.ensures.freed) (omega arith) (omega arith) k ∣₁))
