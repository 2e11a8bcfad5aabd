-- The mutator that is put back has what was taken.
use Rattle.std.proofs.Common.{◌∙◌, inl, inr}
use Rattle.gc_concurrent.proofs.Passing.{handshake_tied, handshake_word, filled, one_hand, goes_at, in_hand}
use Rattle.gc_concurrent.proofs.handshake.Holding.go.Goals as goal

pub store-requires : goal.store-requires
store-requires c =
    let a = c.args.self in (
      c.exchange-spare.ensures.0 ∙ handshake_tied _ _ _ c.deref-2.ensures a.row.0,
      handshake_word _ _ _ c.deref-2.ensures a.row.0 a.row.1,
      goes_at _ _ _ a.seat.me.0 c.release-commander.result.0 (filled a.seat.me _ _ _ a.holds c.exchange-spare.ensures.3) a.keeps.0 a.keeps.1 (inl (inr (λ i. record { heap = (c.release-commander.ensures.heap ∙ a.took.0) i; moves = (c.release-commander.ensures.moves ∙ a.took.1) i; begun = (c.release-commander.ensures.begun ∙ a.since) i; logged = c.release-commander.ensures.log i }))),
    )

pub exchange-spare-requires : goal.exchange-spare-requires
exchange-spare-requires c = let a = c.args.self in let o = one_hand a.seat.me.1 _ a.holds in (handshake_tied _ _ _ c.deref.ensures a.row.0, in_hand _ _ _ o.1)
