-- The mutator that is put back has gone through a flip.
use Rattle.std.proofs.Common.{◌≡◌, [], Bool, true, false, true≢false, ◌∙◌, inr, subst, ap, sym, inl, ⊎_elim}
use Rattle.gc_concurrent.specs.Moves.{FlipsTo}
use Rattle.gc_concurrent.specs.Holders.{situation_in}
use Rattle.gc_concurrent.proofs.Passing.{handshake_tied, handshake_word, filled, one_hand, goes_at, in_hand}
use Rattle.gc_concurrent.specs.Checking.{IsVouchedBy}
use Rattle.gc_concurrent.specs.Turns.{IfAsked}
use Rattle.gc_concurrent.specs.Ends.{Theirs}
use Rattle.gc_concurrent.specs.Holders.{heap_held}
use Rattle.atomic_table.specs.Seated.{TableId}
use Rattle.atomic_table.specs.Table.{rest}
use Rattle.gc_concurrent.specs.Internal.Handshakes.{HandshakeSat, hands}
use Rattle.gc_concurrent.proofs.handshake.Holding.flip.Goals as goal

pub store-requires : goal.store-requires
store-requires g c =
    let a = c.args.self in (
      c.exchange-spare.ensures.0 ∙ handshake_tied _ _ _ c.deref-2.ensures a.row.0,
      handshake_word _ _ _ c.deref-2.ensures a.row.0 a.row.1,
      goes_at _ _ _ a.seat.me.0 c.in-Ok.all.0 (filled a.seat.me _ _ _ a.holds c.exchange-spare.ensures.3) a.keeps.0 a.keeps.1 (inr (subst (λ s. FlipsTo s (situation_in c.in-Ok.all.0)) (λ i. record { heap = a.took.0 i; moves = a.took.1 i; begun = a.since i; logged = a.seat.me.0.keeper.took.logged }) (c.in-Ok.ensures.ok a.seat.me.0.keeper.took.logged))),
    )

pub exchange-spare-requires : goal.exchange-spare-requires
exchange-spare-requires g c = let a = c.args.self in let o = one_hand a.seat.me.1 _ a.holds in (handshake_tied _ _ _ c.deref.ensures a.row.0, in_hand _ _ _ o.1)

-- the collector's seat after the mutator has gone
pub invariant_of-result-2 : goal.invariant_of-result-2
invariant_of-result-2 g c =
    let a = c.args.self in
    let went = c.store.ensures.2 c.in-Ok.all.0 [] (ap (λ (m : HandshakeSat). m.1) (filled a.seat.me _ _ _ a.holds c.exchange-spare.ensures.3)) in
    let id = c.store.ensures.0 ∙ c.exchange-spare.ensures.0 in
    record {
      row = (a.row.0 ∙ sym id, ap (λ (i : TableId). i.words) id ∙ a.row.1);
      keeps = (
        ap (λ (m : HandshakeSat). m.0.keeps) went ∙ ap (λ (m : HandshakeSat). m.0.keeps) c.exchange-spare.ensures.3 ∙ a.keeps.0,
        ap (λ (m : HandshakeSat). m.0.keeper.phase) went,
        ap (λ (m : HandshakeSat). m.0.keeper.row) went ∙ c.in-Ok.ensures.row,
      );
      holds = ap hands went ∙ ap (λ (m : HandshakeSat). hands (m.0, rest m.1)) (filled a.seat.me _ _ _ a.holds c.exchange-spare.ensures.3);
    }

pub returns-clause-asked : goal.returns-clause-asked
returns-clause-asked g c =
    ⊎_elim (λ v. inl (subst (IsVouchedBy c.args.self.held.copier.standing (heap_held c.args.self.held)) (sym (ap (λ (t : Theirs). t.base) c.in-Ok.ensures.fresh)) v)) (λ s. inr s) c.in-Ok.ensures.asked

with_base : (asked : Bool) (said vouched vouched' : Type 0) → (vouched → vouched') → IfAsked asked said vouched → IfAsked asked said vouched'
with_base true said vouched vouched' f by = by
with_base false said vouched vouched' f by = f by

pub returns-clause-turns : goal.returns-clause-turns
returns-clause-turns g c =
    record {
      asked = c.in-Ok.all.2;
      turned = c.after.ensures;
      due = c.in-Ok.ensures.along ∙ c.is_due.ensures;
      by = with_base c.in-Ok.all.2 _ _ _ (subst (IsVouchedBy c.args.self.held.copier.standing (heap_held c.args.self.held)) (sym (ap (λ (t : Theirs). t.base) c.in-Ok.ensures.fresh))) c.in-Ok.ensures.turned;
    }

along_of : (asked : Bool) (said vouched : Type 0) → asked ≡ false → IfAsked asked said vouched → vouched
along_of true said vouched e by = absurd (true≢false e)
along_of false said vouched e by = by

pub returns-clause-along : goal.returns-clause-along
returns-clause-along g c none =
    along_of c.in-Ok.all.2 _ _ (c.in-Ok.ensures.along ∙ c.is_due.ensures ∙ none)
    (with_base c.in-Ok.all.2 _ _ _ (subst (IsVouchedBy c.args.self.held.copier.standing (heap_held c.args.self.held)) (sym (ap (λ (t : Theirs). t.base) c.in-Ok.ensures.fresh))) c.in-Ok.ensures.turned)
