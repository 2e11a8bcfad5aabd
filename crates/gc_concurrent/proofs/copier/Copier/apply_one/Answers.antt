-- An entry is left out, or its field is read and written.
use Rattle.std.proofs.Common.{◌≡◌, ◌≢◌, ℕ, zero, suc, ◌<◌, ◌==◌, Bool, true, false, true≢false, List, [], ◌∷◌, ◌++◌, drop, length, get_or, map, slice_index, Some, None, is_some, refl, ap, sym, ◌∙◌, subst, arith}
use Rattle.std.specs.Prelude.{slice_set, IsSome, if◌then◌else◌}
use Rattle.std.proofs.lemmas.Bool.{cond_both}
use Rattle.atomic_table.specs.Seated.{TableId}
use Rattle.gc_graph.specs.Graph.{Value, Ref}
use Rattle.gc_words.specs.Closed.{IsWordOfField}
use Rattle.gc_words.specs.Layout.{field_place}
use Rattle.gc_words.specs.Image.{field_at}
use Rattle.gc_words.specs.Space.{SpaceWords, with_field_at}
use Rattle.gc_words.specs.declared.header.Header.{Header}
use Rattle.gc_words.proofs.Public.{field_within}
use Rattle.gc_model.specs.State.{Replica, replica_of, moved}
use Rattle.gc_model.specs.Steps.{with_written}
use Rattle.gc_model.specs.Members.{In}
use Rattle.gc_model.proofs.Public.{in_map_from, with_written_pair}
use Rattle.gc_copy.specs.Words.{replicas_in}
use Rattle.gc_concurrent.specs.declared.copier.Copier.{Copier}
use Rattle.gc_concurrent.specs.Ends.{Theirs}
use Rattle.gc_concurrent.specs.Internal.Rule.{Sat, Loose, IsWordAs, applied, brought, wants, after_read, lacks, read_as, entry_dropped, entries_of_fields}
use Rattle.gc_concurrent.specs.Ends.{its}
use Rattle.gc_concurrent.specs.Moves.{half}
use Rattle.gc_concurrent.specs.Internal.Copiers.{Claims, HasOwnHalf, moved_by}
use Rattle.gc_concurrent.proofs.TiedCells.{tied, tied_words}
use Rattle.gc_concurrent.proofs.Copying.{applies_at}
use Rattle.gc_concurrent.proofs.Placing.{leaves}
use Rattle.gc_concurrent.proofs.Halves.{entry_own, target_own}
use Rattle.gc_concurrent.proofs.Memory.{Stands, field_word_moved, near, at_place, brought_keeps, brought_starts, entry_field, unclaimed, lacks_not, lacks_so, moves_so, claims_kept, claims_as, claim_low, written_same}
use Rattle.gc_concurrent.proofs.InHand.{mem, still_spared, word_fits, claim_stands, header_there, keeps_seat, theirs_is, copies_is}
use Rattle.gc_concurrent.proofs.Nearing.{nears_by, left_nears, applied_nears, wants_nears}
use Rattle.gc_concurrent.specs.Internal.Following.{Follows}
use Rattle.gc_concurrent.specs.Internal.Knowing.{Brings, Compared, Knows}
use Rattle.gc_concurrent.proofs.Knowing.{applied_brings, left_brings, wants_brings}
use Rattle.gc_concurrent.proofs.Known.{has_passed, is_found, its_origin, knows_compared, knows_kept}
use Rattle.gc_concurrent.proofs.Comparing.{theirs_seen, copies_seen, keeps_seen, nears_seen, loose_seen, along_still, along_written, can_compare, word_there}
use Rattle.gc_concurrent.proofs.copier.Copier.apply_one.Goals as goal
use Rattle.gc_concurrent.proofs.copier.Copier.apply_one.Goals.{After-load-word}

-- what is due, as the collector's fields have it
due_is : (a : Copier) (row : List (ℕ × ℕ)) (name i : ℕ) (rest : List (ℕ × ℕ)) → row ≡ a.due.items → entries_of_fields a.fill a.fill_next a.fill_left ++ drop a.next row ≡ (name, i) ∷ rest → a.seat.me.0.theirs.due ≡ (name, i) ∷ rest
due_is a row name i rest e h = a.dues.0 ∙ (ap (λ (r : List (ℕ × ℕ)). entries_of_fields a.fill a.fill_next a.fill_left ++ drop a.next r) (sym e) ∙ h)

-- the claim of the entry's object
place_is : (a : Copier) (name k place : ℕ) → HasOwnHalf a.seat.me.0.theirs name → k ≡ half name → place ≡ get_or a.claims.items k place → slice_index a.claims.items (half name) ≡ place
place_is a name k place own is e = ap (slice_index a.claims.items) (sym is) ∙ at_place a.claims.items k place (let n = a.claimed.long in let w = own.near in omega arith) e

pub index-place-requires : goal.index-place-requires
index-place-requires c =
    let a = c.args.self.now in
    let d = due_is a c.as_slice.result.now c.in-Some.oldest.name c.in-Some.oldest.field _ c.as_slice.ensures.value c.in-Some.ensures.some in
    let own = (entry_own a.seat.me.0.theirs a.loose c.in-Some.oldest.name c.in-Some.oldest.field _ d).near in
    let n = a.claimed.long in omega (arith, c.half.ensures)

-- ---- an entry without a replica

pub load-requires : goal.load-requires
load-requires c =
    let a = c.args.self.now in
    let d = due_is a c.as_slice.result.now c.in-Some.oldest.name c.in-Some.oldest.field _ c.as_slice.ensures.value c.in-Some.ensures.some in
    let own = entry_own a.seat.me.0.theirs a.loose c.in-Some.oldest.name c.in-Some.oldest.field _ d in
    let missing = unclaimed a.claims.items a.seat.me.0.theirs c.in-Some.oldest.name a.loose a.claimed own (place_is a c.in-Some.oldest.name c.half.result c.index-place.result.now own c.half.ensures c.index-place.ensures ∙ c.if-place-eq0.true) in (
      tied _ _ _ c.deref-cells.ensures a.row.0,
      (let o = a.sized.0 in let w = tied_words _ _ _ _ c.deref-cells.ensures a.row.0 a.row.1 in omega arith),
      leaves _ _ _ _ _ (c.in-Some.oldest.name, c.in-Some.oldest.field) _ a.copies d missing,
    )

-- an entry whose object has no claim is that of an object without a replica
left_out : (a : Copier) (row : List (ℕ × ℕ)) (name i k place : ℕ) (rest : List (ℕ × ℕ)) → row ≡ a.due.items → entries_of_fields a.fill a.fill_next a.fill_left ++ drop a.next row ≡ (name, i) ∷ rest
    → k ≡ half name → place ≡ get_or a.claims.items k place → place ≡ 0 → replica_of (its a.seat.me.0.theirs) name ≡ None
left_out a row name i k place rest e h is at none =
    let own = entry_own a.seat.me.0.theirs a.loose name i rest (due_is a row name i rest e h) in
    unclaimed a.claims.items a.seat.me.0.theirs name a.loose a.claimed own (place_is a name k place own is at ∙ none)

pub invariant_of-self-then-place-eq0 : goal.invariant_of-self-then-place-eq0
invariant_of-self-then-place-eq0 c =
    let a = c.args.self.now in
    let t = a.seat.me.0.theirs in
    let u : Theirs = entry_dropped t in
    let d = due_is a c.as_slice.result.now c.in-Some.oldest.name c.in-Some.oldest.field _ c.as_slice.ensures.value c.in-Some.ensures.some in
    let missing = left_out a c.as_slice.result.now c.in-Some.oldest.name c.in-Some.oldest.field c.half.result c.index-place.result.now _ c.as_slice.ensures.value c.in-Some.ensures.some c.half.ensures c.index-place.ensures c.if-place-eq0.true in
    let went = c.load.ensures.2.0 (c.in-Some.oldest.name, c.in-Some.oldest.field) _ d missing in
    let is : c.load.new.seat.me.0.theirs ≡ u = theirs_is a.seat.me c.load.new.seat.me u went in
    let copies : c.load.new.seat.me.0.copies ≡ true = copies_is a.seat.me c.load.new.seat.me u went a.copies in
    record {
      row = (a.row.0 ∙ sym c.load.ensures.0, ap (λ (i : TableId). i.words) c.load.ensures.0 ∙ a.row.1, a.row.2);
      copies = copies;
      shaped = a.shaped;
      sized = (ap (λ (x : Theirs). x.old) is ∙ a.sized.0, a.sized.1 ∙ sym (ap (λ (x : Theirs). x.size) is));
      same = ap (λ (x : Theirs). x.replicas) is ∙ a.same;
      scans = (ap (λ (x : Theirs). x.scan_place) is ∙ a.scans.0, ap (λ (x : Theirs). x.scan_field) is ∙ a.scans.1);
      dues = (
        ap (λ (x : Theirs). x.due) is ∙ (ap (drop 1) d ∙ ap (λ (r : List (ℕ × ℕ)). entries_of_fields a.fill c.in-Some.oldest.fill_next c.in-Some.oldest.fill_left ++ drop c.in-Some.oldest.next r) c.as_slice.ensures.value),
        (let n = ap (length {A = ℕ × ℕ}) c.as_slice.ensures.value in let b = c.in-Some.ensures.bounds in omega arith),
        c.in-Some.ensures.bounds.1,
      );
      wants = ap (λ (x : Theirs). x.wanted) is ∙ a.wants;
      aimed = λ w. absurd (true≢false (sym w ∙ c.requires.clear));
      fills = λ q k e n. a.fills q (subst (In q) (ap (λ (x : Theirs). x.replicas) is) k) e (λ z. n (let f = c.in-Some.ensures.fills.0 in omega arith));
      claimed = subst (Claims a.claims.items) (sym is) (claims_as a.claims.items t u refl refl a.claimed);
      loose = c.load.ensures.2.1 copies;
      along = along_still a.standing a.seat.me c.load.new.seat.me a.space a.space (ap (λ (m : Sat). m.0.seen) went) refl a.along;
      knows = knows_kept a.standing a.seat.me c.load.new.seat.me a.space a.space u (ap (λ (m : Sat). m.0.seen) went) refl is (left_brings t (c.in-Some.oldest.name, c.in-Some.oldest.field) _ d missing) a.knows;
      spared = a.spared;
    }

pub returns-then-place-eq0-clause-seat : goal.returns-then-place-eq0-clause-seat
returns-then-place-eq0-clause-seat c =
    let a = c.args.self.now in
    let t = a.seat.me.0.theirs in
    let d = due_is a c.as_slice.result.now c.in-Some.oldest.name c.in-Some.oldest.field _ c.as_slice.ensures.value c.in-Some.ensures.some in
    let missing = left_out a c.as_slice.result.now c.in-Some.oldest.name c.in-Some.oldest.field c.half.result c.index-place.result.now _ c.as_slice.ensures.value c.in-Some.ensures.some c.half.ensures c.index-place.ensures c.if-place-eq0.true in
    keeps_seat a.seat.me c.load.new.seat.me (entry_dropped t) (c.load.ensures.2.0 (c.in-Some.oldest.name, c.in-Some.oldest.field) _ d missing) refl refl refl (λ x there. there) (λ w starts. starts)

-- ---- its field

-- the replica, in memory
its_replica : (a : Copier) (row : List (ℕ × ℕ)) (name i k place : ℕ) (rest : List (ℕ × ℕ)) → row ≡ a.due.items → entries_of_fields a.fill a.fill_next a.fill_left ++ drop a.next row ≡ (name, i) ∷ rest
    → k ≡ half name → place ≡ get_or a.claims.items k place → (place ≡ 0 → ⊥)
    → (s : Stands a.seat.me.0.theirs a.space place) × (s.replica.original ≡ name) × (a.seat.me.0.theirs.due ≡ (s.replica.original, i) ∷ rest) × (i < length s.replica.object.fields)
its_replica a row name i k place rest e h is at ne =
    let d = due_is a row name i rest e h in
    let own = entry_own a.seat.me.0.theirs a.loose name i rest d in
    let s = claim_stands a name place own (place_is a name k place own is at) ne in
    let d' : a.seat.me.0.theirs.due ≡ (s.0.replica.original, i) ∷ rest = d ∙ (λ j. (sym s.1 j, i) ∷ rest) in
    (s.0, s.1, d', entry_field a.seat.me.0.theirs a.loose s.0.replica i rest s.0.there d')

pub header-header-requires : goal.header-header-requires
header-header-requires c =
    let r = its_replica c.args.self.now c.as_slice.result.now c.in-Some.oldest.name c.in-Some.oldest.field c.half.result c.index-place.result.now _ c.as_slice.ensures.value c.in-Some.ensures.some c.half.ensures c.index-place.ensures c.if-place-eq0.false in
    ap is_some r.0.found

pub load-word-requires : goal.load-word-requires
load-word-requires c =
    let a = c.args.self.now in
    let r = its_replica a c.as_slice.result.now c.in-Some.oldest.name c.in-Some.oldest.field c.half.result c.index-place.result.now _ c.as_slice.ensures.value c.in-Some.ensures.some c.half.ensures c.index-place.ensures c.if-place-eq0.false in
    let is : c.field_index.result ≡ field_place r.0.replica.original c.in-Some.oldest.field = c.field_index.ensures ∙ ap (λ n. field_place n c.in-Some.oldest.field) (sym r.1) in (
      tied _ _ _ c.deref-cells.ensures a.row.0,
      (let n = near a.seat.me.0.theirs a.loose r.0.replica r.0.there in let o = a.sized.0 in let w = tied_words _ _ _ _ c.deref-cells.ensures a.row.0 a.row.1 in let f = r.3 in omega arith),
      applies_at _ _ _ _ r.0.replica c.in-Some.oldest.field _ _ is a.copies r.0.there r.2,
    )

module _ (c : After-load-word) where
  abbrev a : Copier
  a = c.args.self.now

  abbrev t : Theirs
  t = c.args.self.now.seat.me.0.theirs

  abbrev i : ℕ
  i = c.in-Some.oldest.field

  abbrev rest : List (ℕ × ℕ)
  rest = entries_of_fields c.args.self.now.fill c.in-Some.oldest.fill_next c.in-Some.oldest.fill_left ++ drop c.in-Some.oldest.next c.as_slice.result.now

  abbrev place : ℕ
  place = c.index-place.result.now

  abbrev r : (s : Stands c.args.self.now.seat.me.0.theirs c.args.self.now.space c.index-place.result.now) × (s.replica.original ≡ c.in-Some.oldest.name) × (c.args.self.now.seat.me.0.theirs.due ≡ (s.replica.original, c.in-Some.oldest.field) ∷ (entries_of_fields c.args.self.now.fill c.in-Some.oldest.fill_next c.in-Some.oldest.fill_left ++ drop c.in-Some.oldest.next c.as_slice.result.now)) × (c.in-Some.oldest.field < length s.replica.object.fields)
  r = its_replica c.args.self.now c.as_slice.result.now c.in-Some.oldest.name c.in-Some.oldest.field c.half.result c.index-place.result.now (entries_of_fields c.args.self.now.fill c.in-Some.oldest.fill_next c.in-Some.oldest.fill_left ++ drop c.in-Some.oldest.next c.as_slice.result.now) c.as_slice.ensures.value c.in-Some.ensures.some c.half.ensures c.index-place.ensures c.if-place-eq0.false

  abbrev q : Replica
  q = (its_replica c.args.self.now c.as_slice.result.now c.in-Some.oldest.name c.in-Some.oldest.field c.half.result c.index-place.result.now (entries_of_fields c.args.self.now.fill c.in-Some.oldest.fill_next c.in-Some.oldest.fill_left ++ drop c.in-Some.oldest.next c.as_slice.result.now) c.as_slice.ensures.value c.in-Some.ensures.some c.half.ensures c.index-place.ensures c.if-place-eq0.false).0.replica

  abbrev v : Value
  v = read_as (its_replica c.args.self.now c.as_slice.result.now c.in-Some.oldest.name c.in-Some.oldest.field c.half.result c.index-place.result.now (entries_of_fields c.args.self.now.fill c.in-Some.oldest.fill_next c.in-Some.oldest.fill_left ++ drop c.in-Some.oldest.next c.as_slice.result.now) c.as_slice.ensures.value c.in-Some.ensures.some c.half.ensures c.index-place.ensures c.if-place-eq0.false).0.replica.object.raw c.load-word.result

  told : IsWordAs q.object.raw c.load-word.result × (c.load-word.new.seat.me ≡ (record a.seat.me.0 { theirs = after_read (applied q.original i v) (lacks (its t) v) t }, a.seat.me.1))
  told = c.load-word.ensures.2.0 q i rest r.0.there r.2 (c.field_index.ensures ∙ ap (λ n. field_place n i) (sym r.1))

  loose : ∥ Loose c.load-word.new.seat.me.0.theirs ∥₁
  loose = c.load-word.ensures.2.1 (copies_is a.seat.me c.load-word.new.seat.me (after_read (applied q.original i v) (lacks (its t) v) t) told.1 a.copies)

  own : (x : ℕ) → v ≡ Ref x → HasOwnHalf t x
  own x is = target_own t v (applied q.original i v) a.loose
      (subst (λ (y : Theirs). ∥ Loose y ∥₁) (theirs_is a.seat.me c.load-word.new.seat.me (after_read (applied q.original i v) (lacks (its t) v) t) told.1) loose) x is

  same_header : r.0.block.header ≡ c.header-header.result
  same_header = header_there a.space.words place r.0.block c.header-header.result r.0.found c.header-header.ensures

  raw_is : (b : Bool) → b ≡ c.header-header.result.raw → q.object.raw ≡ b
  raw_is b e = r.0.raw ∙ (ap (λ (x : Header). x.raw) same_header ∙ sym e)

  within : i < c.header-header.result.len
  within = let e = ap (λ (x : Header). x.len) same_header in let m = r.0.many in let f = r.3 in omega arith

pub moved_field-requires-clause-value : goal.moved_field-requires-clause-value
moved_field-requires-clause-value c plain = let l = (goal.at.moved_field-requires-clause-value c).After-load-word in subst (λ b. IsWordAs b c.load-word.result) (raw_is l c.is_raw.result c.is_raw.ensures ∙ plain) (told l).0

pub moved_field-requires-clause-inside : goal.moved_field-requires-clause-inside
moved_field-requires-clause-inside c x is =
    let l = (goal.at.moved_field-requires-clause-inside c).After-load-word in
    let b = (own l x (ap (λ b. read_as b c.load-word.result) (raw_is l c.is_raw.result c.is_raw.ensures) ∙ is)).near in
    let n = ap (length {A = ℕ}) c.as_slice-2.ensures.value in let m = c.args.self.now.claimed.long in omega arith

pub moved_field-requires-clause-places : goal.moved_field-requires-clause-places
moved_field-requires-clause-places c = subst (λ (row : List ℕ). (a : ℕ) → slice_index row a < 4294967295) (sym c.as_slice-2.ensures.value) (claim_low c.args.self.now.claims.items c.args.self.now.seat.me.0.theirs c.args.self.now.loose c.args.self.now.claimed)

pub wrote-written-requires-clause-there : goal.wrote-written-requires-clause-there
wrote-written-requires-clause-there c =
    let l = (goal.at.wrote-written-requires-clause-there c).After-load-word in
    let a = c.args.self.now in
    field_within a.space.words c.index-place.result.now c.in-Some.oldest.field c.header-header.result a.shaped.walked c.header-header.ensures (within l)

-- what was written is a number, or refers to replicas
pub wrote-written-requires-clause-fits : goal.wrote-written-requires-clause-fits
wrote-written-requires-clause-fits c =
    let l = (goal.at.wrote-written-requires-clause-fits c).After-load-word in
    let raw : (q l).object.raw ≡ c.is_raw.result = raw_is l c.is_raw.result c.is_raw.ensures in
    let to : (x : ℕ) → read_as c.is_raw.result c.load-word.result ≡ Ref x → v l ≡ Ref x = λ x is. ap (λ b. read_as b c.load-word.result) raw ∙ is in
    let word : IsWordOfField c.is_raw.result (a l).space.words c.in-Ok.moved = field_word_moved c.is_raw.result (a l).claims.items (t l) (a l).space c.load-word.result c.in-Ok.moved (mem (a l)) (a l).claimed
    (subst (λ b. IsWordAs b c.load-word.result) raw (told l).0)
    (c.in-Ok.ensures.moved ∙ ap (λ (r : List ℕ). moved_by r (read_as c.is_raw.result c.load-word.result)) c.as_slice-2.ensures.value) c.in-Ok.ensures.value (λ x is. own l x (to x is))
    (subst (λ (r : List ℕ). (x : ℕ) → read_as c.is_raw.result c.load-word.result ≡ Ref x → slice_index r (half x) ≢ 0) c.as_slice-2.ensures.value c.in-Ok.ensures.placed) in
    word_fits (a l).space.words (place l) c.in-Ok.moved c.header-header.result c.header-header.ensures (subst (λ b. IsWordOfField b (a l).space.words c.in-Ok.moved) c.is_raw.ensures word)
    c.args.self.now.space refl

-- the view after the read, where the target has a replica or there is none
follows : (c : After-load-word) → lacks (its (t c)) (v c) ≡ None → c.load-word.new.seat.me ≡ (record (a c).seat.me.0 { theirs = applied (q c).original (i c) (v c) (t c) }, (a c).seat.me.1)
follows c nl = (told c).1 ∙ (λ j. (record (a c).seat.me.0 { theirs = after_read (applied (q c).original (i c) (v c)) (nl j) (t c) }, (a c).seat.me.1))

-- the view after the read, where the target is wanted
wanting : (c : After-load-word) (x : ℕ) → lacks (its (t c)) (v c) ≡ Some x → c.load-word.new.seat.me ≡ (record (a c).seat.me.0 { theirs = wants x (t c) }, (a c).seat.me.1)
wanting c x is = (told c).1 ∙ (λ j. (record (a c).seat.me.0 { theirs = after_read (applied (q c).original (i c) (v c)) (is j) (t c) }, (a c).seat.me.1))

none_lacks : (c : After-load-word) (row : List ℕ) (b : Bool) → row ≡ (a c).claims.items → b ≡ c.header-header.result.raw → ((x : ℕ) → read_as b c.load-word.result ≡ Ref x → slice_index row (half x) ≢ 0)
    → (lacks (its (t c)) (v c) ≡ None) × (moved (its (t c)) (v c) ≡ moved_by row (read_as b c.load-word.result))
none_lacks c row b e raw ne =
    let to : v c ≡ read_as b c.load-word.result = ap (λ b. read_as b c.load-word.result) (raw_is c b raw) in
    let ne' = subst (λ (z : List ℕ × Value). (x : ℕ) → z.1 ≡ Ref x → slice_index z.0 (half x) ≢ 0) (λ j. (e j, sym to j)) ne in (
      lacks_not (a c).claims.items (t c) (v c) (a c).claimed (own c) ne',
      moves_so (a c).claims.items (t c) (v c) (a c).claimed (own c) ne' ∙ (λ j. moved_by (sym e j) (to j)),
    )

one_lacks : (c : After-load-word) (row : List ℕ) (b : Bool) (x : ℕ) → row ≡ (a c).claims.items → b ≡ c.header-header.result.raw → read_as b c.load-word.result ≡ Ref x → slice_index row (half x) ≡ 0 → lacks (its (t c)) (v c) ≡ Some x
one_lacks c row b x e raw is none =
    let to : v c ≡ Ref x = ap (λ b. read_as b c.load-word.result) (raw_is c b raw) ∙ is in
    lacks_so (a c).claims.items (t c) (v c) x (a c).loose (a c).claimed (own c x to) to (ap (λ (r : List ℕ). slice_index r (half x)) (sym e) ∙ none)

still_raw : (name i : ℕ) (w : Value) (r : Replica) → (with_written name i w r).object.raw ≡ r.object.raw
still_raw name i w r = cond_both (r.original == name) _ _ (λ (q : Replica). q.object.raw ≡ r.object.raw) (λ _. refl) (λ _. refl)

-- a field that follows leaves raw replicas raw
fills_on : (a : Copier) (name i : ℕ) (w : Value) (p : Replica) → In p (map (with_written name i w) a.seat.me.0.theirs.replicas) → p.original ≡ a.fill → a.fill_left ≢ 0 → p.object.raw ≡ true
fills_on a name i w p k e n =
    let o = in_map_from (with_written name i w) p a.seat.me.0.theirs.replicas k in
    sym (ap (λ (x : Replica). x.object.raw) o.2) ∙ (still_raw name i w o.0 ∙ a.fills o.0 o.1 (sym (ap (λ (z : ℕ × ℕ). z.0) (with_written_pair name i w o.0)) ∙ (ap (λ (x : Replica). x.original) o.2 ∙ e)) n)

-- a raw object has no field that refers, so an entry whose target is wanted is none of those to fill
only_values : (a : Copier) (name : ℕ) → (a.fill_left ≢ 0 → name ≡ a.fill) → (q : Replica) → In q a.seat.me.0.theirs.replicas → q.original ≡ name → (b : Bool) → q.object.raw ≡ b → (w x : ℕ) → read_as b w ≡ Ref x → a.fill_left ≡ 0
only_values a name first q k e b raw w x is = go a.fill_left refl
  where
    refers : (b : Bool) → b ≡ true → read_as b w ≡ Ref x → ⊥
    refers true t r = cc r
    refers false t r = true≢false (sym t)

    go : (n : ℕ) → a.fill_left ≡ n → a.fill_left ≡ 0
    go zero z = z
    go (suc n) z = absurd (refers b (sym raw ∙ a.fills q k (e ∙ first (λ y. absurd (omega arith))) (λ y. absurd (omega arith))) is)

pub compare-requires-clause-copies : goal.compare-requires-clause-copies
compare-requires-clause-copies c =
    let l = (goal.at.compare-requires-clause-copies c).After-load-word in
    copies_is (a l).seat.me c.load-word.new.seat.me (after_read (applied (q l).original (i l) (v l)) (lacks (its (t l)) (v l)) (t l)) (told l).1 (a l).copies

pub compare-requires-clause-along : goal.compare-requires-clause-along
compare-requires-clause-along c =
    let l = (goal.at.compare-requires-clause-along c).After-load-word in
    can_compare (a l).standing c.load-word.new.seat.me.0.seen (a l).space.words (place l) c.word.result
    (word_there (a l).space.words (place l) c.word.result c.header-header.result (a l).shaped.walked c.header-header.ensures c.word.ensures.word)
    (along_still (a l).standing (a l).seat.me c.load-word.new.seat.me (a l).space (a l).space (ap (λ (m : Sat). m.0.seen) (told l).1) refl (a l).along)

pub invariant_of-self-in-Ok : goal.invariant_of-self-in-Ok
invariant_of-self-in-Ok c =
    let l = (goal.at.invariant_of-self-in-Ok c).After-load-word in
    let s = (r l).0 in
    let n = none_lacks l c.as_slice-2.result.now c.is_raw.result c.as_slice-2.ensures.value c.is_raw.ensures c.in-Ok.ensures.placed in
    let u : Theirs = applied (q l).original (i l) (v l) (t l) in
    let went = follows l n.0 in
    let is : c.compare.new.seat.me.0.theirs ≡ u = theirs_seen c.load-word.new.seat.me c.compare.new.seat.me _ c.compare.ensures.seen ∙ theirs_is (a l).seat.me c.load-word.new.seat.me u went in
    let copies : c.compare.new.seat.me.0.copies ≡ true = copies_seen c.load-word.new.seat.me c.compare.new.seat.me _ c.compare.ensures.seen (copies_is (a l).seat.me c.load-word.new.seat.me u went (a l).copies) in
    let means : read_as (q l).object.raw c.in-Ok.moved ≡ moved (its (t l)) (v l) = ap (λ b. read_as b c.in-Ok.moved) (raw_is l c.is_raw.result c.is_raw.ensures) ∙ (c.in-Ok.ensures.moved ∙ sym n.1) in
    let there = subst (λ (x : ℕ). IsSome (field_at (a l).space.words x (i l))) (sym s.place_is)
    (field_within (a l).space.words (place l) (i l) c.header-header.result (a l).shaped.walked c.header-header.ensures (within l)) in
    let there_field : IsSome (field_at (a l).space.words (place l) (i l)) = field_within (a l).space.words (place l) (i l) c.header-header.result (a l).shaped.walked c.header-header.ensures (within l) in
    let wrote : u.replicas ≡ replicas_in (with_field_at (a l).space (q l).place (i l) c.in-Ok.moved).words = written_same (t l) (a l).space (q l) (i l) c.in-Ok.moved (v l) (mem (a l)) (a l).loose s.there there means in
    let space : c.wrote-written.new.space ≡ with_field_at (a l).space (q l).place (i l) c.in-Ok.moved = c.wrote-written.ensures.words ∙ (λ j. with_field_at (a l).space (sym s.place_is j) (i l) c.in-Ok.moved) in
    record {
      row = ((a l).row.0 ∙ sym (c.compare.ensures.row ∙ c.load-word.ensures.0), ap (λ (i : TableId). i.words) (c.compare.ensures.row ∙ c.load-word.ensures.0) ∙ (a l).row.1, (a l).row.2);
      copies = copies;
      shaped = c.wrote-written.ensures.shaped;
      sized = (ap (λ (x : Theirs). x.old) is ∙ (a l).sized.0, ap (λ (x : SpaceWords). x.size) space ∙ ((a l).sized.1 ∙ sym (ap (λ (x : Theirs). x.size) is)));
      same = ap (λ (x : Theirs). x.replicas) is ∙ (wrote ∙ ap (λ (x : SpaceWords). replicas_in x.words) (sym space));
      scans = (ap (λ (x : Theirs). x.scan_place) is ∙ (a l).scans.0, ap (λ (x : Theirs). x.scan_field) is ∙ (a l).scans.1);
      dues = (
        ap (λ (x : Theirs). x.due) is ∙ (ap (drop 1) (r l).2 ∙ ap (λ (z : List (ℕ × ℕ)). entries_of_fields (a l).fill c.in-Some.oldest.fill_next c.in-Some.oldest.fill_left ++ drop c.in-Some.oldest.next z) c.as_slice.ensures.value),
        (let n = ap (length {A = ℕ × ℕ}) c.as_slice.ensures.value in let b = c.in-Some.ensures.bounds in omega arith),
        c.in-Some.ensures.bounds.1,
      );
      wants = ap (λ (x : Theirs). x.wanted) is ∙ (a l).wants;
      aimed = λ w. absurd (true≢false (sym w ∙ c.requires.clear));
      fills = λ p k e n. fills_on (a l) (q l).original (i l) (moved (its (t l)) (v l)) p (subst (In p) (ap (λ (x : Theirs). x.replicas) is) k) e (λ z. n (let f = c.in-Some.ensures.fills.0 in omega arith));
      claimed = subst (Claims (a l).claims.items) (sym is) (claims_as (a l).claims.items (brought (q l).original (i l) (v l) (t l)) u refl refl (claims_kept (a l).claims.items (t l) (q l).original (i l) (v l) (a l).claimed));
      loose = loose_seen c.load-word.new.seat.me c.compare.new.seat.me _ c.compare.ensures.seen (loose l);
      along = along_written (a l).standing c.compare.new.standing (a l).seat.me.0.seen c.compare.new.seat.me.0.seen (a l).space c.wrote-written.new.space c.wrote-written.new.space
          (place l) (i l) c.word.result c.in-Ok.moved c.wrote-written.result (a l).shaped there_field c.wrote-written.ensures.words refl
          c.wrote-written.ensures.value (word_there (a l).space.words (place l) c.word.result c.header-header.result (a l).shaped.walked c.header-header.ensures c.word.ensures.word)
          (λ ws. subst (λ z. slice_index ws (place l) ≡ c.word.result → field_place (place l) (i l) < length ws → ∥ Follows (a l).standing z ws ∥₁ → ∥ Follows c.compare.new.standing c.compare.new.seat.me.0.seen (slice_set ws (field_place (place l) (i l)) c.wrote-written.result) ∥₁) (ap (λ (m : Sat). m.0.seen) went) (c.compare.ensures.along ws)) (a l).along;
      knows = subst (λ (y : Theirs). ∥ Knows c.compare.new.standing c.compare.new.seat.me.0.seen c.wrote-written.new.space.words y ∥₁) (sym is)
          (knows_compared (a l) c.compare.new.standing c.compare.new.seat.me.0.seen c.wrote-written.new.space c.wrote-written.new.space (q l) (place l) (i l) c.word.result c.in-Ok.moved c.wrote-written.result u
          (r l).0.there (r l).0.place_is (r l).3
          (word_there (a l).space.words (place l) c.word.result c.header-header.result (a l).shaped.walked c.header-header.ensures c.word.ensures.word)
          there_field c.wrote-written.ensures.words refl c.wrote-written.ensures.value
          (subst (λ z. slice_index (a l).space.words (place l) ≡ c.word.result → field_place (place l) (i l) < length (a l).space.words → ∥ Follows (a l).standing z (a l).space.words ∥₁
          → ∥ Compared (place l) (i l) (a l).standing c.compare.new.standing z c.compare.new.seat.me.0.seen (slice_set (a l).space.words (field_place (place l) (i l)) c.wrote-written.result) ∥₁)
          (ap (λ (m : Sat). m.0.seen) went) (c.compare.ensures.compared (a l).space.words))
          (subst (λ z. Brings (λ p. p ≡ field_place z (i l)) (t l) u) (r l).0.place_is (applied_brings (t l) (q l) (i l) (v l) _ (a l).loose (r l).0.there (r l).2)));
      spared = still_spared (a l) c.wrote-written.new.space.size (ap (λ (x : SpaceWords). x.size) space);
    }

pub invariant_of-self-in-Err : goal.invariant_of-self-in-Err
invariant_of-self-in-Err c =
    let l = (goal.at.invariant_of-self-in-Err c).After-load-word in
    let x : ℕ = c.in-Err.target.0 in
    let u : Theirs = wants x (t l) in
    let went = wanting l x (one_lacks l c.as_slice-2.result.now c.is_raw.result x c.as_slice-2.ensures.value c.is_raw.ensures c.in-Err.ensures.wanted.0 c.in-Err.ensures.wanted.1) in
    let is : c.load-word.new.seat.me.0.theirs ≡ u = theirs_is (a l).seat.me c.load-word.new.seat.me u went in
    let copies : c.load-word.new.seat.me.0.copies ≡ true = copies_is (a l).seat.me c.load-word.new.seat.me u went (a l).copies in
    record {
      row = ((a l).row.0 ∙ sym c.load-word.ensures.0, ap (λ (i : TableId). i.words) c.load-word.ensures.0 ∙ (a l).row.1, (a l).row.2);
      copies = copies;
      shaped = (a l).shaped;
      sized = (ap (λ (y : Theirs). y.old) is ∙ (a l).sized.0, (a l).sized.1 ∙ sym (ap (λ (y : Theirs). y.size) is));
      same = ap (λ (y : Theirs). y.replicas) is ∙ (a l).same;
      scans = (ap (λ (y : Theirs). y.scan_place) is ∙ (a l).scans.0, ap (λ (y : Theirs). y.scan_field) is ∙ (a l).scans.1);
      dues = (ap (λ (y : Theirs). y.due) is ∙ (a l).dues.0, (a l).dues.1, (a l).dues.2);
      wants = ap (λ (y : Theirs). y.wanted) is;
      aimed = λ _. (
        only_values (a l) c.in-Some.oldest.name c.in-Some.ensures.fills.1 (q l) (r l).0.there (r l).1 c.is_raw.result (raw_is l c.is_raw.result c.is_raw.ensures) c.load-word.result x c.in-Err.ensures.wanted.0,
        ap (λ (z : List ℕ). slice_index z (half x)) (sym c.as_slice-2.ensures.value) ∙ c.in-Err.ensures.wanted.1,
      );
      fills = λ p k e n. (a l).fills p (subst (In p) (ap (λ (y : Theirs). y.replicas) is) k) e n;
      claimed = subst (Claims (a l).claims.items) (sym is) (claims_as (a l).claims.items (t l) u refl refl (a l).claimed);
      loose = loose l;
      along = along_still (a l).standing (a l).seat.me c.load-word.new.seat.me (a l).space c.args.self.now.space (ap (λ (m : Sat). m.0.seen) went) refl (a l).along;
      knows = knows_kept (a l).standing (a l).seat.me c.load-word.new.seat.me (a l).space c.args.self.now.space u (ap (λ (m : Sat). m.0.seen) went) refl is (wants_brings x (t l)) (a l).knows;
      spared = (a l).spared;
    }

pub returns-in-Ok-clause-seat : goal.returns-in-Ok-clause-seat
returns-in-Ok-clause-seat c =
    let l = (goal.at.returns-in-Ok-clause-seat c).After-load-word in
    keeps_seen (a l).seat.me c.load-word.new.seat.me c.compare.new.seat.me _ c.compare.ensures.seen (keeps_seat (a l).seat.me c.load-word.new.seat.me (applied (q l).original (i l) (v l) (t l)) (follows l (none_lacks l c.as_slice-2.result.now c.is_raw.result c.as_slice-2.ensures.value c.is_raw.ensures c.in-Ok.ensures.placed).0) refl refl refl (brought_keeps (t l) (q l).original (i l) (v l)) (λ w. brought_starts (a l).seat.me.0.mine (t l) (q l).original (i l) (v l)))

pub returns-in-Err-clause-seat : goal.returns-in-Err-clause-seat
returns-in-Err-clause-seat c =
    let l = (goal.at.returns-in-Err-clause-seat c).After-load-word in
    let x : ℕ = c.in-Err.target.0 in
    keeps_seat (a l).seat.me c.load-word.new.seat.me (wants x (t l)) (wanting l x (one_lacks l c.as_slice-2.result.now c.is_raw.result x c.as_slice-2.ensures.value c.is_raw.ensures c.in-Err.ensures.wanted.0 c.in-Err.ensures.wanted.1)) refl refl refl (λ y there. there) (λ w starts. starts)

pub returns-then-place-eq0-clause-nears : goal.returns-then-place-eq0-clause-nears
returns-then-place-eq0-clause-nears c _ =
    let a = c.args.self.now in
    let t = a.seat.me.0.theirs in
    let d = due_is a c.as_slice.result.now c.in-Some.oldest.name c.in-Some.oldest.field _ c.as_slice.ensures.value c.in-Some.ensures.some in
    let missing = left_out a c.as_slice.result.now c.in-Some.oldest.name c.in-Some.oldest.field c.half.result c.index-place.result.now _ c.as_slice.ensures.value c.in-Some.ensures.some c.half.ensures c.index-place.ensures c.if-place-eq0.true in
    nears_by a.seat.me c.load.new.seat.me (entry_dropped t) (c.load.ensures.2.0 (c.in-Some.oldest.name, c.in-Some.oldest.field) _ d missing) (λ end. left_nears end t _ _ d)

pub returns-in-Ok-clause-nears : goal.returns-in-Ok-clause-nears
returns-in-Ok-clause-nears c _ =
    let l = (goal.at.returns-in-Ok-clause-nears c).After-load-word in
    nears_seen (a l).seat.me c.load-word.new.seat.me c.compare.new.seat.me _ c.compare.ensures.seen (nears_by (a l).seat.me c.load-word.new.seat.me (applied (q l).original (i l) (v l) (t l)) (follows l (none_lacks l c.as_slice-2.result.now c.is_raw.result c.as_slice-2.ensures.value c.is_raw.ensures c.in-Ok.ensures.placed).0)
    (λ end. applied_nears end (t l) (q l).original (i l) (v l) _ _ (r l).2))

pub returns-in-Err-clause-nears : goal.returns-in-Err-clause-nears
returns-in-Err-clause-nears c _ =
    let l = (goal.at.returns-in-Err-clause-nears c).After-load-word in
    let x : ℕ = c.in-Err.target.0 in
    nears_by (a l).seat.me c.load-word.new.seat.me (wants x (t l)) (wanting l x (one_lacks l c.as_slice-2.result.now c.is_raw.result x c.as_slice-2.ensures.value c.is_raw.ensures c.in-Err.ensures.wanted.0 c.in-Err.ensures.wanted.1))
    (λ end. wants_nears end x (t l) ((a l).wants ∙ ap (λ b. if b then (a l).wanted ∷ [] else []) c.requires.clear))

-- no field of a raw object wants a target
pub returns-in-Err-clause-filled : goal.returns-in-Err-clause-filled
returns-in-Err-clause-filled c left =
    let l = (goal.at.returns-in-Err-clause-filled c).After-load-word in
    absurd (left (only_values (a l) c.in-Some.oldest.name c.in-Some.ensures.fills.1 (q l) (r l).0.there (r l).1 c.is_raw.result (raw_is l c.is_raw.result c.is_raw.ensures) c.load-word.result c.in-Err.target.0 c.in-Err.ensures.wanted.0))

pub compare-requires-clause-found : goal.compare-requires-clause-found
compare-requires-clause-found c = is_found c.args.self.now

pub compare-requires-clause-passed : goal.compare-requires-clause-passed
compare-requires-clause-passed c =
    let l = (goal.at.compare-requires-clause-passed c).After-load-word in
    has_passed (a l) (q l) (i l) (place l) c.word.result (r l).0.there (r l).0.place_is (r l).3
    (word_there (a l).space.words (place l) c.word.result c.header-header.result (a l).shaped.walked c.header-header.ensures c.word.ensures.word)

pub compare-requires-clause-low : goal.compare-requires-clause-low
compare-requires-clause-low c =
    let l = (goal.at.compare-requires-clause-low c).After-load-word in
    let e = its_origin (a l) (q l) (place l) (r l).0.there (r l).0.place_is in
    let n = near (t l) (a l).loose (q l) (r l).0.there in
    let o = (a l).sized.0 in let m = (r l).3 in omega arith
