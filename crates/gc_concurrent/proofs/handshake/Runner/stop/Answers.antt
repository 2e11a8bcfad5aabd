-- A mutator hands itself over, or takes itself back.
use Rattle.std.proofs.Common.{ap, ◌∙◌}
use Rattle.gc_concurrent.specs.Internal.Handshakes.{HandshakeSat}
use Rattle.gc_concurrent.proofs.Passing.{handshake_tied, handshake_word, filled, one_hand, parks_at, in_hand}
use Rattle.gc_concurrent.proofs.handshake.Runner.stop.Goals as goal

pub exchange-spare-requires : goal.exchange-spare-requires
exchange-spare-requires c = let a = c.args.self in let o = one_hand a.seat.me.1 _ a.holds in (handshake_tied _ _ _ c.deref.ensures a.row.0, in_hand _ _ _ o.1)

pub compare_exchange-found-requires : goal.compare_exchange-found-requires
compare_exchange-found-requires c =
    let a = c.args.self in (
      c.exchange-spare.ensures.0 ∙ handshake_tied _ _ _ c.deref-2.ensures a.row.0,
      handshake_word _ _ _ c.deref-2.ensures a.row.0 a.row.1,
      parks_at _ _ _ a.seat.me.0 a.commander (filled a.seat.me _ _ _ a.holds c.exchange-spare.ensures.3) a.goes.0 a.goes.1,
    )

pub exchange-back-requires : goal.exchange-back-requires
exchange-back-requires c =
    let a = c.args.self in
    let e = filled a.seat.me _ _ _ a.holds c.exchange-spare.ensures.3 in (
      c.compare_exchange-found.ensures.0 ∙ (c.exchange-spare.ensures.0 ∙ handshake_tied _ _ _ c.deref-3.ensures a.row.0),
      in_hand _ _ _ (ap (λ (m : HandshakeSat). m.1) (c.compare_exchange-found.ensures.2.1 c.if-found-eq1.false ∙ e)),
    )
