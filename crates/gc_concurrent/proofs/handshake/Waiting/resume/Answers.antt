-- A mutator that may go on takes back what lies in the slot.
use Rattle.std.proofs.Common.{ap, ◌∙◌}
use Rattle.gc_concurrent.specs.Internal.Handshakes.{HandshakeSat}
use Rattle.gc_concurrent.proofs.Passing.{handshake_tied, handshake_word, resumes_at, in_hand}
use Rattle.gc_concurrent.proofs.handshake.Waiting.resume.Goals as goal

pub compare_exchange-found-requires : goal.compare_exchange-found-requires
compare_exchange-found-requires c = let a = c.args.self in (handshake_tied _ _ _ c.deref.ensures a.row.0, handshake_word _ _ _ c.deref.ensures a.row.0 a.row.1, resumes_at _ _ _ a.goes a.holds)

pub exchange-got-requires : goal.exchange-got-requires
exchange-got-requires c =
    let a = c.args.self in
    let t = c.compare_exchange-found.ensures.2.0 c.if-found-ne3.false in (
      c.compare_exchange-found.ensures.0 ∙ handshake_tied _ _ _ c.deref-2.ensures a.row.0,
      in_hand _ _ _ (ap (λ (m : HandshakeSat). m.1) t.2),
    )
