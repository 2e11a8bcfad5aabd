-- Each object that is found is the next one of the words that are seen.
use Rattle.std.proofs.Common.{◌≡◌, ◌≢◌, ◌≤◌, inl, inr, Some, None, false, ◌++◌, length, ap, sym, ◌∙◌, subst, arith}
use Rattle.std.proofs.Props.{props}
use Rattle.std.proofs.Math.Logic.{∥∥₁_elim}
use Rattle.gc_monitor.specs.Tables.{Tables}
use Rattle.gc_words.specs.Word.{read_header}
use Rattle.gc_monitor.specs.Events.{Saw}
use Rattle.gc_monitor.specs.Watch.{IsSeen}
use Rattle.gc_concurrent.specs.Internal.Props.{seen_prop}
use Rattle.gc_concurrent.specs.Internal.Rule.{Sat, SeesEnd}
use Rattle.gc_model.specs.Members.{In}
use Rattle.gc_concurrent.specs.Internal.Following.{Follows}
use Rattle.gc_concurrent.specs.Internal.Knowing.{Knows}
use Rattle.gc_concurrent.proofs.Following.{through, saw_follows, seeing_on}
use Rattle.gc_concurrent.proofs.Knowing.{can_see, saw_knows}
use Rattle.gc_concurrent.proofs.Seeing.{sees_rule}
use Rattle.gc_concurrent.proofs.watching.walk.Goals as goal
use Rattle.gc_concurrent.proofs.watching.walk.Goals.{After-walk}

pub walk-requires : goal.walk-requires
walk-requires c = record {
  can = λ less. (
    c.loop-words.invariant.0 ∙ c.requires.cells,
    omega (arith, less, c.requires.wide),
    sees_rule _ _ _ _ _ (ap (λ (m : Sat). m.0.copies) c.loop-words.invariant.1 ∙ c.requires.copies) (omega (arith, less, c.requires.wide, c.requires.sized)),
  );
}

module _ (c : After-walk) where
  abbrev before : Tables
  before = c.loop-words.standing

  fine : before.lost ≡ false
  fine = c.loop-words.invariant.4

  old : c.loop-words.seat.me.0.theirs.old ≡ c.args.seat.now.me.0.theirs.old
  old = ap (λ (m : Sat). m.0.theirs.old) c.loop-words.invariant.1

  room : c.loop-words.seat.me.0.theirs.old ≤ before.room
  room = let same : before.room ≡ c.args.standing.now.room = ap (λ (t : Tables). t.room) c.loop-words.invariant.3 in let r = c.requires.room in omega (arith, same, old, r)

  upto : IsSeen (length before.olds) c.loop-words.seat.me.0.seen
  upto = ∥∥₁_elim c.requires.along (seen_prop _ _) (λ x. ∥∥₁_elim (c.loop-words.invariant.2 x.0 ∣ x.1 ∣₁) (seen_prop _ _) (λ f. (f fine).0.watches.old_seen))

  -- the checker has room for what it finds
  found : c.walk.new.self.lost ≡ false
  found = c.walk.ensures.stays fine (λ word less reads other.
      let low = c.requires.old in
      can_see before word c.args.size c.loop-words.seat.me c.walk.new.seat.me room (omega (arith, low, old)) ((reads.1 upto).1 other))

  -- where the walk stands no object starts
  stands : c.walk.result ≡ false → (c.walk.new.self ≡ before) × SeesEnd (length before.olds) c.loop-words.seat.me c.walk.new.seat.me × (c.walk.new.seat.table_id ≡ c.loop-words.seat.table_id)
  stands off =
      let s = c.walk.ensures.stands off found in
      let less = c.loop-words-test.true in
      let seen = c.seen.ensures in
      let inside = c.requires.inside in
      elim s.1 [
        | inl past ↦ absurd (let e : c.args.size ≤ length before.olds = past.0 in omega (arith, e, less, seen, inside))
        | inr zero ↦ (s.0, (zero.2.1 upto).0 zero.3, zero.2.0)
      ]

pub returns-then-not-walk-clause-found : goal.returns-then-not-walk-clause-found
returns-then-not-walk-clause-found c = found (goal.at.returns-then-not-walk-clause-found c).After-walk

pub returns-then-not-walk-clause-row : goal.returns-then-not-walk-clause-row
returns-then-not-walk-clause-row c = (stands (goal.at.returns-then-not-walk-clause-row c).After-walk c.if-not-walk.true).2 ∙ c.loop-words.invariant.0

pub returns-then-not-walk-clause-seen : goal.returns-then-not-walk-clause-seen
returns-then-not-walk-clause-seen c =
    let end = (stands (goal.at.returns-then-not-walk-clause-seen c).After-walk c.if-not-walk.true).1 in
    seeing_on c.args.seat.now.me c.loop-words.seat.me c.walk.new.seat.me c.loop-words.seat.me.0.seen c.loop-words.invariant.1 end.same

pub returns-then-not-walk-clause-along : goal.returns-then-not-walk-clause-along
returns-then-not-walk-clause-along c new h =
    let s = stands (goal.at.returns-then-not-walk-clause-along c).After-walk c.if-not-walk.true in
    subst (λ (z : Tables × Sat). ∥ Follows z.0 z.1.0.seen new ∥₁) (λ i. (sym s.0 i, sym s.1.same i)) (c.loop-words.invariant.2 new h)

pub returns-then-not-walk-clause-same : goal.returns-then-not-walk-clause-same
returns-then-not-walk-clause-same c =
    let s = stands (goal.at.returns-then-not-walk-clause-same c).After-walk c.if-not-walk.true in
    ap (λ (t : Tables). record t { olds = c.args.standing.now.olds }) s.0 ∙ c.loop-words.invariant.3

pub returns-then-not-walk-clause-knows : goal.returns-then-not-walk-clause-knows
returns-then-not-walk-clause-knows c new t f h =
    let s = stands (goal.at.returns-then-not-walk-clause-knows c).After-walk c.if-not-walk.true in
    subst (λ (z : Tables × Sat). ∥ Knows z.0 z.1.0.seen new t ∥₁) (λ i. (sym s.0 i, sym s.1.same i)) (c.loop-words.invariant.5 new t f h)

pub returns-then-not-walk-clause-originals : goal.returns-then-not-walk-clause-originals
returns-then-not-walk-clause-originals c r there _ =
    let s = stands (goal.at.returns-then-not-walk-clause-originals c).After-walk c.if-not-walk.true in
    let less = s.1.originals r (subst (In r) (sym (ap (λ (m : Sat). m.0.theirs.replicas) c.loop-words.invariant.1)) there) in
    let same : length c.walk.new.self.olds ≡ length c.loop-words.standing.olds = ap (λ (t : Tables). length t.olds) s.0 in
    omega arith

pub returns-then-not-walk-clause-words : goal.returns-then-not-walk-clause-words
returns-then-not-walk-clause-words c writes low =
    let s = stands (goal.at.returns-then-not-walk-clause-words c).After-walk c.if-not-walk.true in
    let past = s.1.words (ap (λ (m : Sat). m.0.writes) c.loop-words.invariant.1 ∙ writes) in
    let words : length c.loop-words.seat.me.0.mine.space.words ≡ length c.args.seat.now.me.0.mine.space.words = ap (λ (m : Sat). length m.0.mine.space.words) c.loop-words.invariant.1 in
    let same : length c.walk.new.self.olds ≡ length c.loop-words.standing.olds = ap (λ (t : Tables). length t.olds) s.0 in
    omega arith

pub loop-words-preserved : goal.loop-words-preserved
loop-words-preserved c =
    let l = (goal.at.loop-words-preserved c).After-walk in
    let went = c.walk.ensures.went c.if-not-walk.false in
    let word = went.0 in
    let saw : Saw word c.loop-words.standing c.walk.new.self = went.2 in
    let other : word ≢ 0 = λ zero. absurd (let no : None ≡ Some saw.0 = sym (ap read_header zero) ∙ saw.1 in cc) in
    let sees = (went.1.1 (upto l)).1 other in (
      went.1.0 ∙ c.loop-words.invariant.0,
      seeing_on c.args.seat.now.me c.loop-words.seat.me c.walk.new.seat.me (c.loop-words.seat.me.0.seen ++ sees.more) c.loop-words.invariant.1 sees.same,
      λ new h. through c.loop-words.standing c.walk.new.self c.loop-words.seat.me.0.seen c.walk.new.seat.me.0.seen new new
          (saw_follows c.loop-words.standing c.walk.new.self new word c.loop-words.seat.me c.walk.new.seat.me (fine l) (λ _. saw) sees)
          (c.loop-words.invariant.2 new h),
      ap (λ (t : Tables). record t { olds = c.args.standing.now.olds }) saw.3 ∙ c.loop-words.invariant.3,
      found l,
      λ new t f h. ∥∥₁_elim (c.loop-words.invariant.2 new f) (hlevel props) (λ follows. ∥∥₁_elim (c.loop-words.invariant.5 new t f h) (hlevel props) (λ k.
          ∣ saw_knows c.loop-words.standing new word c.loop-words.seat.me c.walk.new.seat.me t sees follows k c.walk.new.self saw ∣₁)),
    )
