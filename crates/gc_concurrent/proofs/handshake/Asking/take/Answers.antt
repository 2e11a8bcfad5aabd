-- A collector that has asked may take a mutator that stopped.
use Rattle.std.proofs.Common.{◌≡◌, ℕ, ◌+◌, ◌*◌, ◌≤◌, true, List, [], ◌∷◌, length, ap, sym, ◌∙◌, arith}
use Rattle.std.specs.Prelude.{Option, Some, None}
use Rattle.gc_concurrent.specs.declared.commands.Commander.{Commander}
use Rattle.gc_model.specs.State.{new_end}
use Rattle.gc_words.specs.Space.{end_of}
use Rattle.gc_concurrent.specs.Ends.{Theirs, its}
use Rattle.gc_concurrent.specs.Holders.{beginning_of, heap_held, heap_in, known_to, log_length, moves_in}
use Rattle.gc_concurrent.specs.Nearing.{steps_ahead}
use Rattle.gc_concurrent.proofs.Bounding.{steps_below}
use Rattle.gc_concurrent.specs.Internal.Handshakes.{HandshakeSat, hands, took_it}
use Rattle.gc_concurrent.proofs.Passing.{handshake_tied, handshake_word, takes_gate_at, in_hand, taken_alone, filled}
use Rattle.gc_concurrent.proofs.handshake.Asking.take.Goals as goal
use Rattle.gc_concurrent.proofs.handshake.Asking.take.Goals.{After-hold-held}

pub load-requires : goal.load-requires
load-requires c = let a = c.args.self in (handshake_tied _ _ _ c.deref.ensures a.row.0, handshake_word _ _ _ c.deref.ensures a.row.0 a.row.1, takes_gate_at _ _ _ a.keeps.0 a.keeps.1 a.holds)

pub exchange-got-requires : goal.exchange-got-requires
exchange-got-requires c =
    let a = c.args.self in
    let t = c.load.ensures.2.0 c.if-load-ne2.false in (
      c.load.ensures.0 ∙ handshake_tied _ _ _ c.deref-2.ensures a.row.0,
      in_hand _ _ _ (ap (λ (m : HandshakeSat). m.1) t.2),
    )

-- what lies in the first slot in hand
abbrev first_hand : List (ℕ × Option Commander) → Option Commander
first_hand [] = None
first_hand (x ∷ xs) = x.1

same_mutator : (k m : Commander) (got : Option Commander) → Some k ≡ got → got ≡ Some m → k ≡ m
same_mutator k m got e is = let both : Some k ≡ Some m = e ∙ is in cc

-- the mutator that lay in the slot
abbrev lay : After-hold-held → Commander
lay c = (c.load.ensures.2.0 c.if-load-ne2.false).0

alone : (c : After-hold-held) → c.load.new.seat.me ≡ (took_it (lay c) c.args.self.seat.me.0, (0, Some (lay c)) ∷ [])
alone c = taken_alone c.args.self.seat.me c.load.new.seat.me (took_it (lay c) c.args.self.seat.me.0) (0, Some (lay c)) c.args.self.holds (c.load.ensures.2.0 c.if-load-ne2.false).2

empty : (c : After-hold-held) → c.exchange-got.new.seat.me ≡ (c.load.new.seat.me.0, (0, None) ∷ [])
empty c = filled c.load.new.seat.me c.exchange-got.new.seat.me true None (ap hands (alone c)) c.exchange-got.ensures.3

view : (c : After-hold-held) → c.exchange-got.new.seat.me.0 ≡ took_it (lay c) c.args.self.seat.me.0
view c = ap (λ (m : HandshakeSat). m.0) (empty c) ∙ ap (λ (m : HandshakeSat). m.0) (alone c)

same : (c : After-hold-held) → lay c ≡ c.in-Some.commander
same c = same_mutator (lay c) c.in-Some.commander c.exchange-got.result (ap first_hand (sym (ap (λ (m : HandshakeSat). m.1) (alone c)) ∙ c.exchange-got.ensures.2)) c.in-Some.is

pub invariant_of-result-2 : goal.invariant_of-result-2
invariant_of-result-2 c =
    let a = c.args.self in
    let e = c.exchange-got.ensures in
    let h = (goal.at.invariant_of-result-2 c).After-hold-held in
    record {
      row = (a.row.0 ∙ (sym c.load.ensures.0 ∙ sym e.0), ap (λ i. i.words) (e.0 ∙ c.load.ensures.0) ∙ a.row.1);
      keeps = (ap (λ v. v.keeps) (view h) ∙ a.keeps.0, ap (λ v. v.keeper.phase) (view h));
      took = (c.hold-held.ensures.heap ∙ (ap heap_in (sym (same h)) ∙ sym (ap (λ v. v.keeper.took.heap) (view h))), c.hold-held.ensures.moves ∙ (ap moves_in (sym (same h)) ∙ sym (ap (λ v. v.keeper.took.moves) (view h))));
      since = c.hold-held.ensures.begun ∙ (ap beginning_of (sym (same h)) ∙ sym (ap (λ v. v.keeper.took.begun) (view h)));
      holds = ap hands (empty h);
    }

-- each word of the mutator's space takes four steps at most, and each entry two
below : (end many : ℕ) (t : Theirs) → new_end (its t) ≤ end → length t.due ≡ many → steps_ahead end t ≤ 4 * end + 2 * many + 1
below end many t fits is = let s = steps_below end t fits in omega (arith, s, is)

pub returns-clause-steps : goal.returns-clause-steps
returns-clause-steps c =
    let h = (goal.at.returns-clause-steps c).After-hold-held in
    let due = ap (λ (x : Theirs). length x.due) c.hold-held.ensures.log ∙ ap (length {A = ℕ × ℕ}) (sym c.in-Some.commander.mutator.logged) ∙ ap log_length (sym (same h)) ∙ sym (ap (λ v. v.keeper.took.logged) (view h)) in
    below (end_of (heap_held c.hold-held.result).space) _ (known_to c.hold-held.result.copier) c.hold-held.ensures.fits due
