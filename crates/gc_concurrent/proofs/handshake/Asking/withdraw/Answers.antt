-- A collector asks no longer, or puts back the mutator as it took it.
use Rattle.std.proofs.Common.{refl, ◌∙◌, inl}
use Rattle.gc_concurrent.specs.Internal.Handshakes.{took_it}
use Rattle.gc_concurrent.proofs.Passing.{handshake_tied, handshake_word, withdraws_at, taken_alone, goes_at}
use Rattle.gc_concurrent.proofs.handshake.Asking.withdraw.Goals as goal

pub compare_exchange-found-requires : goal.compare_exchange-found-requires
compare_exchange-found-requires c = let a = c.args.self in (handshake_tied _ _ _ c.deref.ensures a.row.0, handshake_word _ _ _ c.deref.ensures a.row.0 a.row.1, withdraws_at _ _ _ a.keeps.0 a.keeps.1 a.holds)

pub store-requires : goal.store-requires
store-requires c =
    let a = c.args.self in
    let t = c.compare_exchange-found.ensures.2.1 c.if-found-ne1.true in (
      c.compare_exchange-found.ensures.0 ∙ handshake_tied _ _ _ c.deref-then-found-ne1.ensures a.row.0,
      handshake_word _ _ _ c.deref-then-found-ne1.ensures a.row.0 a.row.1,
      goes_at _ _ _ (took_it t.0 a.seat.me.0) t.0 (taken_alone a.seat.me _ _ _ a.holds t.2) a.keeps.0 refl (inl (inl refl)),
    )
