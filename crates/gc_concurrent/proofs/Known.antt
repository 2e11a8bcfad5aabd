-- What the checker knows, as a collector's fields have it.
use Rattle.std.proofs.Common.{◌≡◌, ◌⊎◌, ◌≢◌, inl, inr, ⊎_elim, ℕ, ◌<◌, ◌≤◌, true, false, List, [], ◌∷◌, ◌++◌, length, Some, ap, refl, sym, ◌∙◌, subst, arith, get_or}
use Rattle.std.specs.Prelude.{slice_index, slice_index_or, slice_set, IsSome}
use Rattle.std.proofs.Math.Logic.{∥∥₁_elim}
use Rattle.std.proofs.Props.{props}
use Rattle.std.proofs.lemmas.List.{get_or-set_same}
use Rattle.gc_words.specs.Image.{field_at}
use Rattle.gc_words.specs.Layout.{field_place}
use Rattle.gc_words.specs.Space.{SpaceWords, IsSpace, with_field_at}
use Rattle.gc_words.proofs.Public.{field_read, field_written}
use Rattle.gc_model.specs.State.{Replica}
use Rattle.gc_model.specs.Members.{In}
use Rattle.gc_model.specs.Belonging.{IsLogged}
use Rattle.gc_model.proofs.Public.{in_right}
use Rattle.gc_monitor.specs.Tables.{Tables}
use Rattle.gc_monitor.specs.Claims.{CanWriteAt, IsPassedField}
use Rattle.gc_concurrent.specs.declared.copier.Copier.{Copier}
use Rattle.gc_concurrent.specs.Ends.{Known, Theirs, its}
use Rattle.gc_concurrent.specs.Moves.{half}
use Rattle.gc_concurrent.specs.Internal.Copiers.{HasOwnHalf}
use Rattle.gc_concurrent.specs.Internal.Flip.{Holds}
use Rattle.gc_concurrent.specs.Internal.Following.{Follows, WroteEach}
use Rattle.gc_concurrent.specs.Internal.Knowing.{Brings, Compared, Knows}
use Rattle.gc_concurrent.specs.Internal.Rule.{CatchesUp, Loose, Sat}
use Rattle.gc_concurrent.proofs.Caught.{caught_knows}
use Rattle.gc_concurrent.proofs.Halves.{original_own, told_own}
use Rattle.gc_concurrent.proofs.InHand.{mem}
use Rattle.gc_concurrent.proofs.Knowing.{compared_knows, kept_knows, origin_there, passed_there}

-- where a step brings nothing up to date
pub knows_kept : (t : Tables) (a b : Sat) (old new : SpaceWords) (u : Theirs) → b.0.seen ≡ a.0.seen → new ≡ old → b.0.theirs ≡ u → Brings (λ _. ⊥) a.0.theirs u → ∥ Knows t a.0.seen old.words a.0.theirs ∥₁ → ∥ Knows t b.0.seen new.words b.0.theirs ∥₁
knows_kept t a b old new u seen space is brings h =
    subst (λ (z : List ℕ × (SpaceWords × Theirs)). ∥ Knows t z.0 z.1.0.words z.1.1 ∥₁) (λ i. (sym seen i, (sym space i, sym is i)))
    (∥∥₁_elim h (hlevel props) (λ k. ∣ kept_knows t a.0.seen old.words a.0.theirs u brings k ∣₁))

-- a step that changes nothing
pub knows_still : (t : Tables) (a b : Sat) (old new : SpaceWords) → b.0.seen ≡ a.0.seen → new ≡ old → b.0.theirs ≡ a.0.theirs → ∥ Knows t a.0.seen old.words a.0.theirs ∥₁ → ∥ Knows t b.0.seen new.words b.0.theirs ∥₁
knows_still t a b old new seen space is h = subst (λ (z : List ℕ × (SpaceWords × Theirs)). ∥ Knows t z.0 z.1.0.words z.1.1 ∥₁) (λ i. (sym seen i, (sym space i, sym is i))) h

pub is_found : (a : Copier) → a.standing.lost ≡ false
is_found a = ∥∥₁_elim a.knows (hlevel props) (λ k. k.found)

pub has_room : (a : Copier) → (a.seat.me.0.theirs.old ≤ a.standing.room) × (a.seat.me.0.theirs.size ≤ a.standing.room)
has_room a = ∥∥₁_elim a.knows (hlevel props) (λ k. (k.old_room, k.new_room))

-- the tables have a field of a replica
pub has_passed : (a : Copier) (r : Replica) (i at word : ℕ) → In r a.seat.me.0.theirs.replicas → r.place ≡ at → i < length r.object.fields → slice_index a.space.words at ≡ word → ∥ IsPassedField word a.standing at i ∥₁
has_passed a r i at word there place low is = ∥∥₁_elim a.knows (hlevel props) (λ k. ∥∥₁_elim a.along (hlevel props) (λ follows.
    ∣ subst (λ (z : ℕ × ℕ). IsPassedField z.0 a.standing z.1 i) (λ n. ((ap (slice_index a.space.words) place ∙ is) n, place n))
    (passed_there a.standing a.seat.me.0.seen a.space a.seat.me.0.theirs (mem a) a.loose k (follows k.found).2 r there i low) ∣₁))

pub its_origin : (a : Copier) (r : Replica) (at : ℕ) → In r a.seat.me.0.theirs.replicas → r.place ≡ at → slice_index_or a.standing.origins at 0 ≡ r.original
its_origin a r at there place = ∥∥₁_elim a.knows (hlevel props) (λ k. ap (λ n. get_or a.standing.origins n 0) (sym place) ∙ (origin_there a.standing a.seat.me.0.seen a.space.words a.seat.me.0.theirs k r there).1)

-- a field that was written and compared
pub knows_compared : (a : Copier) (after : Tables) (after_seen : List ℕ) (new back : SpaceWords) (r : Replica) (at i word moved written : ℕ) (u : Theirs) → In r a.seat.me.0.theirs.replicas → r.place ≡ at → i < length r.object.fields
    → slice_index a.space.words at ≡ word → IsSome (field_at a.space.words at i) → new ≡ with_field_at a.space at i moved → back ≡ new → field_at new.words at i ≡ Some written
    → (slice_index a.space.words at ≡ word → field_place at i < length a.space.words → ∥ Follows a.standing a.seat.me.0.seen a.space.words ∥₁ → ∥ Compared at i a.standing after a.seat.me.0.seen after_seen (slice_set a.space.words (field_place at i) written) ∥₁)
    → Brings (λ p. p ≡ field_place at i) a.seat.me.0.theirs u → ∥ Knows after after_seen back.words u ∥₁
knows_compared a after after_seen new back r at i word moved written u there place low is has set same read compared brings =
    let p = field_place at i in
    let inside : p < length a.space.words = (field_read a.space.words at i a.shaped.walked has).within in
    let wrote : IsSpace (with_field_at a.space at i moved) = (field_written a.space at i moved a.shaped has).0 in
    let read' : field_at (with_field_at a.space at i moved).words at i ≡ Some written = ap (λ (s : SpaceWords). field_at s.words at i) (sym set) ∙ read in
    let now = field_read (with_field_at a.space at i moved).words at i wrote.walked (ap Rattle.std.proofs.Common.is_some read') in
    let one : Some written ≡ Some moved = sym read' ∙ now.word ∙ ap (λ n. Some n) (get_or-set_same a.space.words p moved 0 inside) in
    let value : written ≡ moved = cc one in
    let words : back.words ≡ slice_set a.space.words p written = ap (λ (s : SpaceWords). s.words) (same ∙ set) ∙ ap (slice_set a.space.words p) (sym value) in
    subst (λ ws. ∥ Knows after after_seen ws u ∥₁) (sym words)
    (∥∥₁_elim a.knows (hlevel props) (λ k. ∥∥₁_elim a.along (hlevel props) (λ follows. ∥∥₁_elim (compared is inside a.along) (hlevel props) (λ c.
    ∣ subst (λ z. Knows after after_seen (slice_set a.space.words (field_place z i) written) u) place
    (compared_knows a.standing after a.seat.me.0.seen after_seen a.space r i written a.seat.me.0.theirs u (mem a) a.loose follows k there low
    (subst (λ z. Compared z i a.standing after a.seat.me.0.seen after_seen (slice_set a.space.words (field_place z i) written)) (sym place) c)
    (subst (λ z. Brings (λ p. p ≡ field_place z i) a.seat.me.0.theirs u) (sym place) brings)) ∣₁))))

-- ---- the log is taken

-- entries of fields of objects, where each replica is as long as its original
entry_low : (t : Theirs) → ∥ Loose t ∥₁ → (a i : ℕ) → IsLogged (its t) a i → (r : Replica) → In r t.replicas → r.original ≡ a → i < length r.object.fields
entry_low t l a i logged r there same = ∥∥₁_elim l (hlevel props) (λ (x : Loose t).
    let h = (x.belongs).entries a i logged in
    let rep = (x.belongs).replicas r there in
    let both : Some h.0 ≡ Some rep.original = sym h.1 ∙ ap (Rattle.gc_graph.specs.Graph.lookup x.objects) (sym same) ∙ rep.found in
    let one : h.0 ≡ rep.original = cc both in
    let n : length h.0.fields ≡ length rep.original.fields = ap (λ (o : Rattle.gc_graph.specs.Graph.Object). length o.fields) one in
    let m = rep.len in let z = h.2 in omega arith)

-- the checker can be told of each
pub can_tell : (a : Copier) (claims : List ℕ) (log : List (ℕ × ℕ)) (u : Theirs) → claims ≡ a.claims.items → ∥ Loose u ∥₁ → u.replicas ≡ a.seat.me.0.theirs.replicas → ((x i : ℕ) → In {X = ℕ × ℕ} (x, i) log → IsLogged (its u) x i)
    → (x i : ℕ) → In {X = ℕ × ℕ} (x, i) log → CanWriteAt x i (slice_index claims (half x)) a.standing
can_tell a claims log u row loose same logged x i there two = ∥∥₁_elim a.knows (hlevel props) (λ k. ∥∥₁_elim a.along (hlevel props) (λ follows.
    let r = k.taken x two in
    let o = origin_there a.standing a.seat.me.0.seen a.space.words a.seat.me.0.theirs k r.0 r.1 in
    let low : i < length r.0.object.fields = entry_low u loose x i (logged x i there) r.0 (subst (In r.0) (sym same) r.1) r.2 in
    let passed = passed_there a.standing a.seat.me.0.seen a.space a.seat.me.0.theirs (mem a) a.loose k (follows k.found).2 r.0 r.1 i low in
    let claim : slice_index claims (half x) ≡ r.0.place = ap (λ (ws : List ℕ). slice_index ws (half x)) row ∙ its_claim a r.0 x r.1 r.2 in (
      (let p = o.0 in let e = r.2 in omega arith),
      ap (λ b. get_or a.standing.origins b 0) claim ∙ o.1 ∙ r.2,
      (let w = passed.within in omega arith),
    )))
  where
    its_claim : (a : Copier) (r : Replica) (x : ℕ) → In r a.seat.me.0.theirs.replicas → r.original ≡ x → slice_index a.claims.items (half x) ≡ r.place
    its_claim a r x there is = ∥∥₁_elim a.loose (hlevel props) (λ (l : Loose a.seat.me.0.theirs).
        let s = Rattle.gc_model.proofs.Public.replica_exists (its a.seat.me.0.theirs) r there in
        let f = Rattle.gc_model.proofs.Public.replica_in (its a.seat.me.0.theirs) r.original s.0 s.1 in
        let one : s.0 ≡ r = Rattle.gc_model.proofs.Public.same_original a.seat.me.0.theirs.replicas s.0 r (l.belongs).once f.0 there f.1 in
        told_own a.claims.items a.seat.me.0.theirs x a.claimed (subst (HasOwnHalf a.seat.me.0.theirs) is (original_own a.seat.me.0.theirs a.loose r there))
        ∙ ap (λ o. Rattle.std.specs.Option.option_map_or (λ (q : Replica). q.place) o 0) (ap (Rattle.gc_model.specs.State.replica_of (its a.seat.me.0.theirs)) (sym is) ∙ s.1)
        ∙ ap (λ (q : Replica). q.place) one)

pub knows_caught : (a : Copier) (v : Known) (after : Tables) (u : Theirs) → v.seen ≡ a.seat.me.0.seen → v.theirs ≡ a.seat.me.0.theirs → CatchesUp v → WroteEach v.mine.log a.standing after → ∥ Loose u ∥₁ → Brings (λ _. ⊥) v.theirs u
    → u.replicas ≡ v.theirs.replicas → ((x i : ℕ) → In {X = ℕ × ℕ} (x, i) v.mine.log → IsLogged (its u) x i) → ∥ Knows after v.mine.space.words a.space.words u ∥₁
knows_caught a v after u seen theirs is told loose brings same logged =
    let holds : Holds a.space v.theirs = subst (Holds a.space) (sym theirs) (mem a) in
    let old_loose : ∥ Loose v.theirs ∥₁ = subst (λ (t : Theirs). ∥ Loose t ∥₁) (sym theirs) a.loose in
    ∥∥₁_elim (subst (λ (z : List ℕ × Theirs). ∥ Knows a.standing z.0 a.space.words z.1 ∥₁) (λ n. (sym seen n, sym theirs n)) a.knows) (hlevel props) (λ k.
    ∥∥₁_elim (subst (λ ws. ∥ Follows a.standing ws a.space.words ∥₁) (sym seen) a.along) (hlevel props) (λ follows.
    ∣ caught_knows v a.standing after a.space u is told holds old_loose follows k brings logged (λ x i there r here e. entry_low u loose x i (logged x i there) r (subst (In r) (sym same) here) e) ∣₁))
