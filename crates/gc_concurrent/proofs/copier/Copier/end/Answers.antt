-- The collector is as it was where the space comes back. Where the space is lost, nothing has a replica any more.
use Rattle.std.proofs.Common.{◌≡◌, ◌≤◌, ℕ, true≢false, List, Option, ap, sym, ◌∙◌, subst, arith}
use Rattle.std.proofs.Math.Logic.{∥∥₁_elim}
use Rattle.std.proofs.Props.{props}
use Rattle.std.specs.Prelude.{IfSome}
use Rattle.gc_concurrent.specs.Moves.{half}
use Rattle.gc_words.specs.Space.{SpaceWords, empty_space}
use Rattle.gc_concurrent.specs.Ends.{Theirs}
use Rattle.gc_concurrent.specs.Internal.Following.{Follows}
use Rattle.gc_concurrent.specs.Internal.Knowing.{Knows}
use Rattle.gc_concurrent.specs.Internal.Rule.{Sat}
use Rattle.gc_concurrent.proofs.Comparing.{along_still, dropped_follows}
use Rattle.gc_concurrent.proofs.InHand.{still_same, still_shaped, still_sized}
use Rattle.gc_concurrent.proofs.Knowing.{dropped_knows}
use Rattle.gc_concurrent.proofs.Known.{has_room, is_found}
use Rattle.gc_concurrent.proofs.Memory.{old_low}
use Rattle.gc_concurrent.proofs.TiedCells.{tied_words}
use Rattle.gc_concurrent.proofs.copier.Copier.end.Goals as goal
use Rattle.gc_concurrent.proofs.copier.Copier.end.Goals.{In-Err-Some}

-- ---- the space comes back

back : (c : In-Err-Some) → c.in-Err-Some.space ≡ c.take_spare.new.self.space
back c = subst (λ (o : Option SpaceWords). IfSome o (λ s. s ≡ c.take_spare.new.self.space)) c.in-Err-Some.field-0-is c.in-Err-Some.ensures.refused

pub invariant_of-result-clause-shaped : goal.invariant_of-result-clause-shaped
invariant_of-result-clause-shaped c = still_shaped c.take_spare.new.self c.in-Err-Some.space (back c)

pub invariant_of-result-clause-sized : goal.invariant_of-result-clause-sized
invariant_of-result-clause-sized c = (c.take_spare.new.self.sized.0, still_sized c.take_spare.new.self c.in-Err-Some.space (back c))

pub invariant_of-result-clause-same : goal.invariant_of-result-clause-same
invariant_of-result-clause-same c = still_same c.take_spare.new.self c.in-Err-Some.space (back c)

pub invariant_of-result-clause-along : goal.invariant_of-result-clause-along
invariant_of-result-clause-along c =
    let b = c.take_spare.new.self in
    subst (λ (s : SpaceWords). ∥ Follows b.standing b.seat.me.0.seen s.words ∥₁) (sym (back c)) b.along

pub invariant_of-result-clause-knows : goal.invariant_of-result-clause-knows
invariant_of-result-clause-knows c =
    let b = c.take_spare.new.self in
    subst (λ (s : SpaceWords). ∥ Knows b.standing b.seat.me.0.seen s.words b.seat.me.0.theirs ∥₁) (sym (back c)) b.knows

pub invariant_of-result-clause-spared : goal.invariant_of-result-clause-spared
invariant_of-result-clause-spared c = c.in-Ok.ensures.long ∙ ap (λ (s : SpaceWords). half s.size) (sym (back c ∙ c.take_spare.ensures.space))

-- ---- the space is lost

pub restart-requires-clause-some : goal.restart-requires-clause-some
restart-requires-clause-some c =
    let b = c.take_spare.new.self in
    let w = tied_words _ _ _ _ c.deref.ensures b.row.0 b.row.1 in let l = old_low b.seat.me.0.theirs b.loose in let s = b.sized.0 in omega arith

pub restart-requires-clause-found : goal.restart-requires-clause-found
restart-requires-clause-found c = is_found c.take_spare.new.self

pub invariant_of-result-in-Err-None-clause-along : goal.invariant_of-result-in-Err-None-clause-along
invariant_of-result-in-Err-None-clause-along c =
    let b = c.take_spare.new.self in
    let small = c.in-Ok.spare.small in
    along_still c.restart.new.standing b.seat.me c.restart.new.seat.me (empty_space 1) c.in-Ok.spare.space (ap (λ (m : Sat). m.0.seen) c.restart.ensures.begun) (λ i. record { size = small.0 i; words = small.1 i })
    (dropped_follows b.standing c.restart.new.standing b.seat.me.0.seen b.space.words (λ e. absurd (true≢false (sym e ∙ is_found b))) (λ _. c.restart.ensures.freed) b.along)

pub invariant_of-result-in-Err-None-clause-knows : goal.invariant_of-result-in-Err-None-clause-knows
invariant_of-result-in-Err-None-clause-knows c =
    let b = c.take_spare.new.self in
    let t = b.seat.me.0.theirs in
    let went = c.restart.ensures.begun in
    let small = c.in-Ok.spare.small in
    let room = has_room b in
    let low = old_low t b.loose in
    let most : t.old ≤ b.standing.room = room.0 in
    subst (λ (z : List ℕ × (List ℕ × Theirs)). ∥ Knows c.restart.new.standing z.0 z.1.0 z.1.1 ∥₁)
    (λ i. (sym (ap (λ (m : Sat). m.0.seen) went) i, (sym small.1 i, sym (ap (λ (m : Sat). m.0.theirs) went) i)))
    (∥∥₁_elim b.knows (hlevel props) (λ k.
    ∣ dropped_knows b.standing c.restart.new.standing b.standing.room b.seat.me.0.seen b.space.words t t.base t.old 1 c.restart.ensures.found c.restart.ensures.freed most (omega arith) k ∣₁))
