-- The header that is loaded is that of the object as it was seen.
use Rattle.std.proofs.Common.{◌≡◌, ◌+◌, ◌<◌, ◌≤◌, ℕ, List, false, ◌++◌, length, refl, ap, sym, ◌∙◌, subst, arith}
use Rattle.std.proofs.Math.Logic.{∥∥₁_elim}
use Rattle.std.proofs.Props.{props}
use Rattle.gc_model.specs.Members.{In}
use Rattle.gc_monitor.specs.Tables.{Tables}
use Rattle.gc_concurrent.specs.Ends.{Theirs}
use Rattle.gc_concurrent.specs.Internal.Knowing.{Knows, KnowsBefore}
use Rattle.gc_concurrent.proofs.Placed.{can_place_by, fits_behind}
use Rattle.gc_concurrent.specs.Internal.Rule.{Sat, seeing}
use Rattle.gc_concurrent.specs.Internal.Following.{Follows}
use Rattle.gc_concurrent.proofs.Following.{through, placed_follows}
use Rattle.gc_concurrent.proofs.Seeing.{headers_rule}
use Rattle.gc_concurrent.proofs.watching.place.Goals as goal
use Rattle.gc_concurrent.proofs.watching.place.Goals.{After-place_through}

-- the room for the old space
room_of : (t : Tables) (seen : List ℕ) (name header : ℕ) (now : Theirs) → ∥ ((new : List ℕ) × (before : Theirs) × Follows t seen new × KnowsBefore t seen new before now name header) ∥₁ → (t.lost ≡ false) × (now.old ≤ t.room)
room_of t seen name header now h = ∥∥₁_elim h (hlevel props) (λ x. (x.3.knows.found, (let e = x.3.from in let r = x.3.knows.old_room in omega arith)))

pub walk-requires-clause-room : goal.walk-requires-clause-room
walk-requires-clause-room c = (room_of _ _ _ _ _ c.requires.knows).1

pub walk-requires-clause-found : goal.walk-requires-clause-found
walk-requires-clause-found c = (room_of _ _ _ _ _ c.requires.knows).0

pub place_through-requires : goal.place_through-requires
place_through-requires c = record {
  within = c.requires.low;
  can = (
    c.walk.ensures.row ∙ c.requires.cells,
    omega (arith, c.requires.low, c.requires.wide),
    headers_rule _ _ _ _ _ (ap (λ (m : Sat). m.0.copies) c.walk.ensures.seen ∙ c.requires.copies),
  );
}

-- the checker takes the object for the replica's original
found : (c : After-place_through) → c.place_through.new.self.lost ≡ false
found c =
    ∥∥₁_elim c.requires.knows (hlevel props) (λ x.
    let kb = x.3 in
    let now : kb.replica.original < c.args.name + 1 = (let e = kb.original in omega arith) in
    let there : In kb.replica c.walk.new.seat.me.0.theirs.replicas = subst (In kb.replica) (sym (ap (λ (m : Sat). m.0.theirs.replicas) c.walk.ensures.seen)) kb.there in
    let less : kb.replica.original < length c.walk.new.standing.olds = c.walk.ensures.originals kb.replica kb.there now in
    ∥∥₁_elim (c.walk.ensures.along x.0 ∣ x.2 ∣₁) (hlevel props) (λ follows. ∥∥₁_elim (c.walk.ensures.knows x.0 x.1 ∣ x.2 ∣₁ ∣ kb.knows ∣₁) (hlevel props) (λ k.
    c.place_through.ensures.stays c.walk.ensures.found
    (fits_behind c.args.standing.now c.walk.new.standing c.args.seat.now.me.0.seen c.walk.new.seat.me.0.seen x.0 x.1 c.args.seat.now.me.0.theirs c.args.name c.args.header kb follows k)
    (λ original reads.
    can_place_by c.args.standing.now c.walk.new.standing c.args.seat.now.me.0.seen c.walk.new.seat.me.0.seen x.0 x.1 c.args.seat.now.me.0.theirs c.args.name c.args.header original kb follows k
    (let e = kb.original in omega arith) (reads.1.2 kb.replica there kb.original)))))

pub returns-clause-found : goal.returns-clause-found
returns-clause-found c = found c

pub returns-clause-row : goal.returns-clause-row
returns-clause-row c = (c.place_through.ensures.read (found c)).0 ∙ c.walk.ensures.row

pub returns-clause-seen : goal.returns-clause-seen
returns-clause-seen c =
    let same = (c.place_through.ensures.read (found c)).1.0 in
    same ∙ c.walk.ensures.seen ∙ ap (λ ws. seeing ws c.args.seat.now.me) (sym (ap (λ (m : Sat). m.0.seen) same))

pub returns-clause-along : goal.returns-clause-along
returns-clause-along c new more h read long at f =
    let read_there = c.place_through.ensures.read (found c) in
    let seen = ap (λ (m : Sat). m.0.seen) read_there.1.0 in
    subst (λ ws. ∥ Follows c.place_through.new.self ws (new ++ more) ∥₁) (sym seen)
    (through c.walk.new.standing c.place_through.new.self c.walk.new.seat.me.0.seen _ new _
    (placed_follows c.walk.new.standing c.place_through.new.self c.walk.new.seat.me.0.seen new more c.args.header c.args.name c.args.header h c.place_through.ensures.lost read long at read_there.1.1 (λ ok. (refl, c.place_through.ensures.placed ok)))
    (c.walk.ensures.along new f))

pub returns-clause-placed : goal.returns-clause-placed
returns-clause-placed c new before f h =
    let seen = ap (λ (m : Sat). m.0.seen) (c.place_through.ensures.read (found c)).1.0 in
    ∥∥₁_elim (c.walk.ensures.along new f) (hlevel props) (λ follows. ∥∥₁_elim (c.walk.ensures.knows new before f h) (hlevel props) (λ k. ∣ record {
      walked = c.walk.new.standing;
      rows = (follows k.found).2;
      knows = subst (λ ws. Knows c.walk.new.standing ws new before) (sym seen) k;
      placed = c.place_through.ensures.placed (found c);
    } ∣₁))
