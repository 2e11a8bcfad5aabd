-- Both ends of a new handshake lie in one hand, and are cut apart.
use Rattle.std.proofs.Common.{ap, refl, sym, ◌∙◌}
use Rattle.atomic_table.specs.Seated.{TableId}
use Rattle.gc_concurrent.specs.Internal.Handshakes.{HandshakeSat, hands}
use Rattle.gc_concurrent.proofs.Handshaking.{handshake_opens, handshake_splits}
use Rattle.gc_concurrent.proofs.Passing.{Handshake, handshake_tied, handshake_word, starts_at}
use Rattle.gc_concurrent.proofs.handshake.open_checked.Goals as goal

pub vacant-requires : goal.vacant-requires
vacant-requires c = handshake_opens c.in_ok-commander.commander _ _ refl refl

pub compare_exchange-requires : goal.compare_exchange-requires
compare_exchange-requires c =
    let t = c.in_ok-table.ensures in
    let row = ap (λ (x : Handshake). x.shared.table_id) c.in_ok-handshake.ensures.ok ∙ sym t.2 in (
      handshake_tied _ _ _ c.deref.ensures row,
      handshake_word _ _ _ c.deref.ensures row (ap (λ (i : TableId). i.words) t.2 ∙ t.0),
      starts_at _ _ _ (ap (λ (m : HandshakeSat). m.0.goes) t.4) (ap (λ (m : HandshakeSat). m.0.keeps) t.4) (ap (λ (m : HandshakeSat). m.0.keeper.phase) t.4) (ap hands t.4),
    )

pub split_seat-place-requires : goal.split_seat-place-requires
split_seat-place-requires c =
    let t = c.in_ok-table.ensures in
    let row = ap (λ (x : Handshake). x.shared.table_id) c.in_ok-handshake.ensures.ok ∙ sym t.2 in (
      c.compare_exchange.ensures.0 ∙ handshake_tied _ _ _ c.deref-2.ensures row,
      handshake_word _ _ _ c.deref-2.ensures row (ap (λ (i : TableId). i.words) t.2 ∙ t.0),
      (let me = c.compare_exchange.ensures.2.1 in handshake_splits _ _ (ap (λ (m : HandshakeSat). m.0.goes) me ∙ ap (λ (m : HandshakeSat). m.0.goes) t.4) (ap (λ (m : HandshakeSat). m.0.keeps) me ∙ ap (λ (m : HandshakeSat). m.0.keeps) t.4)),
    )

pub invariant_of-copier-in_err-handshake : goal.invariant_of-copier-in_err-handshake
invariant_of-copier-in_err-handshake c =
    let b = c.in_ok-commander.copier in
    record { row = b.row; copies = b.copies; shaped = b.shaped; sized = b.sized; same = b.same; scans = b.scans; dues = b.dues; wants = b.wants; aimed = b.aimed; fills = b.fills; claimed = b.claimed; loose = b.loose; along = b.along; knows = b.knows; spared = b.spared }

pub invariant_of-copier-in_err-other : goal.invariant_of-copier-in_err-other
invariant_of-copier-in_err-other c =
    let b = c.in_ok-commander.copier in
    record { row = b.row; copies = b.copies; shaped = b.shaped; sized = b.sized; same = b.same; scans = b.scans; dues = b.dues; wants = b.wants; aimed = b.aimed; fills = b.fills; claimed = b.claimed; loose = b.loose; along = b.along; knows = b.knows; spared = b.spared }

pub invariant_of-copier : goal.invariant_of-copier
invariant_of-copier c =
    let b = c.in_ok-commander.copier in
    record { row = b.row; copies = b.copies; shaped = b.shaped; sized = b.sized; same = b.same; scans = b.scans; dues = b.dues; wants = b.wants; aimed = b.aimed; fills = b.fills; claimed = b.claimed; loose = b.loose; along = b.along; knows = b.knows; spared = b.spared }
