-- The field that is loaded is one of the words that are seen, and then both are looked at.
use Rattle.std.proofs.Common.{◌≡◌, ℕ, ap, sym, ◌∙◌, subst, refl, IsFalse, arith}
use Rattle.std.specs.Prelude.{IsSome, slice_index_or, slice_set}
use Rattle.std.proofs.Math.Logic.{∥∥₁_elim}
use Rattle.std.proofs.Props.{props}
use Rattle.gc_words.specs.Image.{field_at}
use Rattle.gc_words.specs.Layout.{field_place}
use Rattle.gc_concurrent.specs.Internal.Rule.{Sat, seeing}
use Rattle.gc_concurrent.specs.Internal.Following.{Follows}
use Rattle.gc_monitor.specs.Events.{Looked}
use Rattle.gc_concurrent.proofs.Following.{through, original_seen, looked_at, looked_follows}
use Rattle.gc_concurrent.proofs.Seeing.{looks_at}
use Rattle.gc_concurrent.proofs.watching.compare.Goals as goal
use Rattle.gc_concurrent.proofs.watching.compare.Goals.{After-look_through}

pub look_through-requires : goal.look_through-requires
look_through-requires c = record {
  can = λ p.
      let a = slice_index_or c.args.standing.now.origins c.args.at 0 in
      let there : IsSome (field_at c.args.seat.now.me.0.seen a c.args.i) = ∥∥₁_elim c.requires.along (hlevel props)
      (λ x. original_seen c.args.standing.now c.args.seat.now.me.0.seen x.0 c.args.at c.args.i c.args.header c.requires.found x.1 p x.2) in (
        c.requires.cells,
        omega (arith, c.requires.low, c.requires.wide),
        looks_at _ _ _ _ a c.args.i _ refl c.requires.copies there,
      );
}

module _ (c : After-look_through) where
  abbrev original : ℕ
  original = slice_index_or c.args.standing.now.origins c.args.at 0

  pub found : IsFalse c.look_through.new.self.lost
  found = ∥∥₁_elim c.requires.passed (hlevel props) (λ p. c.look_through.ensures.stays c.requires.found p c.requires.low)

  there : IsSome (field_at c.args.seat.now.me.0.seen original c.args.i)
  there = ∥∥₁_elim c.requires.along (hlevel props) (λ x. ∥∥₁_elim c.requires.passed (hlevel props)
      (λ p. original_seen c.args.standing.now c.args.seat.now.me.0.seen x.0 c.args.at c.args.i c.args.header c.requires.found x.1 p x.2))

  -- the word that was loaded
  abbrev pub word : ℕ
  word = (c.look_through.ensures.looked found).0

  pub went : c.look_through.new.seat.me ≡ seeing (slice_set c.args.seat.now.me.0.seen (field_place original c.args.i) word) c.args.seat.now.me
  went = (c.look_through.ensures.looked found).1.1 original c.args.i there refl

  pub seen : c.look_through.new.seat.me.0.seen ≡ slice_set c.args.seat.now.me.0.seen (field_place original c.args.i) word
  seen = ap (λ (m : Sat). m.0.seen) went

pub returns-clause-found : goal.returns-clause-found
returns-clause-found c = found c

pub returns-clause-row : goal.returns-clause-row
returns-clause-row c = (c.look_through.ensures.looked (found c)).1.0

pub returns-clause-seen : goal.returns-clause-seen
returns-clause-seen c = went c ∙ ap (λ ws. seeing ws c.args.seat.now.me) (sym (seen c))

pub returns-clause-along : goal.returns-clause-along
returns-clause-along c new at inside h = ∥∥₁_elim c.requires.passed (hlevel props) (λ p.
    subst (λ ws. ∥ Follows c.look_through.new.self ws (slice_set new (field_place c.args.at c.args.i) c.args.word) ∥₁) (sym (seen c))
    (through c.args.standing.now c.look_through.new.self c.args.seat.now.me.0.seen _ new _
    (looked_follows c.args.standing.now c.look_through.new.self c.args.seat.now.me.0.seen new c.args.at c.args.i c.args.header (word c) c.args.word c.requires.found at inside p (λ _. (c.look_through.ensures.looked (found c)).2))
    h))

pub returns-clause-compared : goal.returns-clause-compared
returns-clause-compared c new at inside h = ∥∥₁_elim c.requires.passed (hlevel props) (λ p. ∥∥₁_elim h (hlevel props) (λ follows. ∣ record {
  word = word c;
  sees = seen c;
  looked = subst (λ ws. Looked ws (slice_set new (field_place c.args.at c.args.i) c.args.word) c.args.at c.args.i c.args.standing.now c.look_through.new.self) (sym (seen c))
      (looked_at c.args.standing.now c.look_through.new.self c.args.seat.now.me.0.seen new c.args.at c.args.i c.args.header (word c) c.args.word c.requires.found at inside p (λ _. (c.look_through.ensures.looked (found c)).2) follows (found c));
} ∣₁))
