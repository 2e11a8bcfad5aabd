-- The walk changes what is seen alone.
use Rattle.std.proofs.Common.{ap, sym, subst}
use Rattle.gc_concurrent.specs.Ends.{Theirs}
use Rattle.gc_concurrent.specs.Internal.Knowing.{Knows}
use Rattle.gc_concurrent.proofs.Known.{has_room, is_found}
use Rattle.gc_model.specs.Members.{In}
use Rattle.gc_concurrent.specs.Internal.Rule.{Sat}
use Rattle.gc_concurrent.proofs.Comparing.{can_place, loose_seen}
use Rattle.gc_concurrent.proofs.copier.Copier.see.Goals as goal

pub walk-requires-clause-along : goal.walk-requires-clause-along
walk-requires-clause-along c = let a = c.args.self.now in can_place a.standing a.seat.me.0.seen a.space.words a.along

pub invariant_of-self-clause-along : goal.invariant_of-self-clause-along
invariant_of-self-clause-along c = let a = c.args.self.now in c.walk.ensures.along a.space.words a.along

pub invariant_of-self-clause-loose : goal.invariant_of-self-clause-loose
invariant_of-self-clause-loose c = loose_seen c.args.self.now.seat.me c.walk.new.seat.me _ c.walk.ensures.seen c.args.self.now.loose

pub invariant_of-self-clause-fills : goal.invariant_of-self-clause-fills
invariant_of-self-clause-fills c q k e n = c.args.self.now.fills q (subst (In q) (ap (λ (m : Sat). m.0.theirs.replicas) c.walk.ensures.seen) k) e n

pub walk-requires-clause-room : goal.walk-requires-clause-room
walk-requires-clause-room c = (has_room c.args.self.now).0

pub walk-requires-clause-found : goal.walk-requires-clause-found
walk-requires-clause-found c = is_found c.args.self.now

pub invariant_of-self-clause-knows : goal.invariant_of-self-clause-knows
invariant_of-self-clause-knows c =
    let a = c.args.self.now in
    subst (λ (t : Theirs). ∥ Knows c.walk.new.standing c.walk.new.seat.me.0.seen a.space.words t ∥₁) (sym (ap (λ (m : Sat). m.0.theirs) c.walk.ensures.seen)) (c.walk.ensures.knows a.space.words a.seat.me.0.theirs a.along a.knows)
