-- The header is read, and the replica lies at the end.
use Rattle.std.proofs.Common.{◌≡◌, ℕ, ◌+◌, ◌<◌, ◌≤◌, Bool, true, false, true≢false, List, [], ◌∷◌, ◌++◌, drop, length, Some, None, is_some, refl, ap, sym, ◌∙◌, subst, inl, ⊎_elim, map, lt_of_not-le, arith}
use Rattle.std.specs.Prelude.{if◌then◌else◌, nat_lt, slice_set, IsSome}
use Rattle.std.proofs.lemmas.Bool.{cond-true, cond-false}
use Rattle.atomic_table.specs.Seated.{TableId}
use Rattle.std.proofs.Math.Logic.{∥∥₁_elim}
use Rattle.std.proofs.Props.{props}
use Rattle.std.proofs.lemmas.List.{length-replicate}
use Rattle.gc_graph.specs.Graph.{Object, first_value}
use Rattle.gc_graph.specs.Machine.{object_words}
use Rattle.gc_words.specs.Word.{read_header}
use Rattle.gc_words.specs.Image.{is_start}
use Rattle.gc_words.specs.Space.{SpaceWords, CanPlace, end_of, free_in, with_object, with_link}
use Rattle.gc_words.specs.declared.header.Header.{Header}
use Rattle.gc_words.proofs.Public.{written_back}
use Rattle.gc_model.specs.State.{Replica, replica_of, new_free, new_end}
use Rattle.gc_model.specs.Members.{In}
use Rattle.gc_model.proofs.Public.{in_map, in_push, in_right, unnamed}
use Rattle.gc_copy.specs.Words.{replicas_in}
use Rattle.gc_concurrent.specs.declared.copier.Copier.{Copier}
use Rattle.gc_concurrent.specs.Ends.{Theirs}
use Rattle.gc_concurrent.specs.Internal.Rule.{Sat, Loose, placed_one, blank_replica, entries_of_fields, to_fill}
use Rattle.gc_concurrent.specs.Ends.{its}
use Rattle.gc_concurrent.specs.Internal.Copiers.{Claims, HasOwnHalf}
use Rattle.gc_concurrent.specs.Moves.{half}
use Rattle.gc_concurrent.proofs.TiedCells.{tied, tied_words}
use Rattle.gc_concurrent.proofs.Placing.{places}
use Rattle.gc_concurrent.proofs.Halves.{wanted_own}
use Rattle.gc_concurrent.proofs.Memory.{unclaimed, has_room, no_room, placed_same, placed_keeps, placed_starts, placed_there, claims_placed, end_is, old_high, room_told}
use Rattle.gc_concurrent.proofs.InHand.{mem, still_spared, keeps_seat, theirs_is}
use Rattle.gc_concurrent.proofs.Nearing.{nears_placed}
use Rattle.gc_concurrent.proofs.Comparing.{theirs_seen, copies_seen, keeps_seen, nears_seen, loose_seen, along_placed, along_still, can_place}
use Rattle.gc_concurrent.specs.Internal.Following.{Follows}
use Rattle.gc_concurrent.specs.Internal.Knowing.{Knows, KnowsBefore}
use Rattle.gc_concurrent.proofs.Placed.{placed_knows}
use Rattle.gc_concurrent.proofs.Known.{knows_still}
use Rattle.gc_concurrent.proofs.copier.Copier.place_wanted.Goals as goal
use Rattle.gc_concurrent.proofs.copier.Copier.place_wanted.Goals.{After-load-word}

wanted_in : (a : Copier) → a.has_wanted ≡ true → In a.wanted a.seat.me.0.theirs.wanted
wanted_in a h = subst (In a.wanted) (sym (a.wants ∙ ap (λ b. if b then a.wanted ∷ [] else []) h)) (inl refl)

own : (a : Copier) → a.has_wanted ≡ true → HasOwnHalf a.seat.me.0.theirs a.wanted
own a h = wanted_own a.seat.me.0.theirs a.loose a.wanted (wanted_in a h)

low : (a : Copier) → a.has_wanted ≡ true → a.wanted + 2 ≤ a.seat.me.0.theirs.old
low a h = (own a h).near

missing : (a : Copier) → a.has_wanted ≡ true → replica_of (its a.seat.me.0.theirs) a.wanted ≡ None
missing a h = unclaimed a.claims.items a.seat.me.0.theirs a.wanted a.loose a.claimed (own a h) (a.aimed h).1

pub load-word-requires : goal.load-word-requires
load-word-requires c =
    let a = c.args.self.now in (
      tied _ _ _ c.deref-cells.ensures a.row.0,
      (let l = low a c.requires.wanted in let o = a.sized.0 in let w = tied_words _ _ _ _ c.deref-cells.ensures a.row.0 a.row.1 in omega arith),
      places _ _ _ _ a.wanted a.copies (wanted_in a c.requires.wanted) (missing a c.requires.wanted),
    )

module _ (c : After-load-word) where
  abbrev a : Copier
  a = c.args.self.now

  abbrev t : Theirs
  t = c.args.self.now.seat.me.0.theirs

  none : replica_of (its t) a.wanted ≡ None
  none = missing a c.requires.wanted

  told : (o : Object) × (read_header c.load-word.result ≡ Some (record { raw = o.raw; kind = o.kind; len = length o.fields }))
      × (c.load-word.new.seat.me ≡ (record a.seat.me.0 { theirs = if nat_lt (new_free (its t)) (object_words (length o.fields)) then t else placed_one a.wanted o t }, a.seat.me.1))
      × (t.old ≤ t.size → nat_lt (new_free (its t)) (object_words (length o.fields)) ≡ false) × (a.seat.me.0.writes ≡ true → new_end (its t) + object_words (length o.fields) ≤ end_of a.seat.me.0.mine.space) × (a.seat.me.0.writes ≡ true → is_start a.seat.me.0.mine.space.words a.wanted ≡ true)
  told = c.load-word.ensures.2.0 (wanted_in a c.requires.wanted) none

  same_header : (h : Header) → read_header c.load-word.result ≡ Some h → h ≡ record { raw = told.0.raw; kind = told.0.kind; len = length told.0.fields }
  same_header h e = let both : Some h ≡ Some (record { raw = told.0.raw; kind = told.0.kind; len = length told.0.fields }) = sym e ∙ told.1 in cc

  copies : c.load-word.new.seat.me.0.copies ≡ true
  copies = ap (λ (m : Sat). m.0.copies) told.2 ∙ a.copies

  loose : ∥ Loose c.load-word.new.seat.me.0.theirs ∥₁
  loose = c.load-word.ensures.2.1 copies

  -- there is room
  placed : (h : Header) → read_header c.load-word.result ≡ Some h → object_words h.len ≤ free_in a.space → c.load-word.new.seat.me ≡ (record a.seat.me.0 { theirs = placed_one a.wanted told.0 t }, a.seat.me.1)
  placed h e fits = told.2 ∙ (λ i. (
    record a.seat.me.0 {
      theirs = cond-false (nat_lt (new_free (its t)) (object_words (length told.0.fields))) t (placed_one a.wanted told.0 t)
          (has_room t a.space (length told.0.fields) (mem a) (let n = ap (λ (x : Header). x.len) (same_header h e) in omega arith)) i;
    },
    a.seat.me.1,
  ))

  -- there is none
  stayed : (h : Header) → read_header c.load-word.result ≡ Some h → (object_words h.len ≤ free_in a.space → ⊥) → c.load-word.new.seat.me ≡ (record a.seat.me.0 { theirs = t }, a.seat.me.1)
  stayed h e full = told.2 ∙ (λ i. (
    record a.seat.me.0 {
      theirs = cond-true (nat_lt (new_free (its t)) (object_words (length told.0.fields))) t (placed_one a.wanted told.0 t)
          (no_room t a.space (length told.0.fields) (mem a) (λ f. full (let n = ap (λ (x : Header). x.len) (same_header h e) in omega arith))) i;
    },
    a.seat.me.1,
  ))

pub of_word-header-requires : goal.of_word-header-requires
of_word-header-requires c = let l = (goal.at.of_word-header-requires c).After-load-word in ap is_some (told l).1

pub invariant_of-self : goal.invariant_of-self
invariant_of-self c =
    let l = (goal.at.invariant_of-self c).After-load-word in
    let went = stayed l c.of_word-header.result c.of_word-header.ensures (λ f. true≢false (sym (c.has_room.ensures.1 (let n = c.len.ensures in omega arith)) ∙ c.if-not-has_room.true)) in
    let is : c.load-word.new.seat.me.0.theirs ≡ t l = theirs_is (a l).seat.me c.load-word.new.seat.me (t l) went in
    record {
      row = ((a l).row.0 ∙ sym c.load-word.ensures.0, ap (λ (i : TableId). i.words) c.load-word.ensures.0 ∙ (a l).row.1, (a l).row.2);
      copies = copies l;
      shaped = (a l).shaped;
      sized = (ap (λ (y : Theirs). y.old) is ∙ (a l).sized.0, (a l).sized.1 ∙ sym (ap (λ (y : Theirs). y.size) is));
      same = ap (λ (y : Theirs). y.replicas) is ∙ (a l).same;
      scans = (ap (λ (y : Theirs). y.scan_place) is ∙ (a l).scans.0, ap (λ (y : Theirs). y.scan_field) is ∙ (a l).scans.1);
      dues = (ap (λ (y : Theirs). y.due) is ∙ (a l).dues.0, (a l).dues.1, (a l).dues.2);
      wants = ap (λ (y : Theirs). y.wanted) is ∙ (a l).wants;
      aimed = (a l).aimed;
      fills = λ q k e n. absurd (n ((a l).aimed c.requires.wanted).0);
      claimed = subst (Claims (a l).claims.items) (sym is) (a l).claimed;
      loose = loose l;
      along = along_still (a l).standing (a l).seat.me c.load-word.new.seat.me (a l).space (a l).space (ap (λ (m : Sat). m.0.seen) went) refl (a l).along;
      knows = knows_still (a l).standing (a l).seat.me c.load-word.new.seat.me (a l).space (a l).space (ap (λ (m : Sat). m.0.seen) went) refl is (a l).knows;
      spared = (a l).spared;
    }

pub returns-then-not-has_room-clause-seat : goal.returns-then-not-has_room-clause-seat
returns-then-not-has_room-clause-seat c =
    let l = (goal.at.returns-then-not-has_room-clause-seat c).After-load-word in
    keeps_seat (a l).seat.me c.load-word.new.seat.me (t l) (stayed l c.of_word-header.result c.of_word-header.ensures (λ f. true≢false (sym (c.has_room.ensures.1 (let n = c.len.ensures in omega arith)) ∙ c.if-not-has_room.true))) refl refl refl (λ x there. there) (λ w starts. starts)

pub returns-then-not-has_room-clause-room : goal.returns-then-not-has_room-clause-room
returns-then-not-has_room-clause-room c _ =
    let l = (goal.at.returns-then-not-has_room-clause-room c).After-load-word in
    let full = no_room (t l) (a l).space (length (told l).0.fields) (mem (a l)) (λ f. true≢false (sym (c.has_room.ensures.1 (let n = ap (λ (x : Header). x.len) (same_header l c.of_word-header.result c.of_word-header.ensures) in let m = c.len.ensures in omega arith)) ∙ c.if-not-has_room.true)) in
    let is = theirs_is (a l).seat.me c.load-word.new.seat.me (t l) (stayed l c.of_word-header.result c.of_word-header.ensures (λ f. true≢false (sym (c.has_room.ensures.1 (let n = c.len.ensures in omega arith)) ∙ c.if-not-has_room.true))) in
    let smaller : (t l).size < (t l).old = lt_of_not-le (λ large. true≢false (sym full ∙ (told l).3 large)) in
    let e = ap (λ (y : Theirs). y.size) is in let f = ap (λ (y : Theirs). y.old) is in omega arith

pub place-requires-clause-low : goal.place-requires-clause-low
place-requires-clause-low c = let l = low c.args.self.now c.requires.wanted in let o = c.args.self.now.sized.0 in omega arith

pub place-requires-clause-old : goal.place-requires-clause-old
place-requires-clause-old c =
    let l = (goal.at.place-requires-clause-old c).After-load-word in
    let fits : object_words c.of_word-header.result.len ≤ free_in (a l).space = (let f = c.has_room.ensures.0 c.if-not-has_room.false in let n = c.len.ensures in omega arith) in
    let is = theirs_is (a l).seat.me c.load-word.new.seat.me (placed_one (a l).wanted (told l).0 (t l)) (placed l c.of_word-header.result c.of_word-header.ensures fits) in
    let e : c.load-word.new.seat.me.0.theirs.old ≡ (t l).old = ap (λ (y : Theirs). y.old) is in
    let s = (a l).sized.0 in omega arith

pub place-requires-clause-copies : goal.place-requires-clause-copies
place-requires-clause-copies c = copies (goal.at.place-requires-clause-copies c).After-load-word

pub place-requires-clause-along : goal.place-requires-clause-along
place-requires-clause-along c =
    let l = (goal.at.place-requires-clause-along c).After-load-word in
    can_place (a l).standing c.load-word.new.seat.me.0.seen (a l).space.words (along_still (a l).standing (a l).seat.me c.load-word.new.seat.me (a l).space (a l).space (ap (λ (m : Sat). m.0.seen) (told l).2) refl (a l).along)

-- the header of the replica that was just placed
blank_header : (h : Header) (o : Object) (place name : ℕ) → h ≡ record { raw = o.raw; kind = o.kind; len = length o.fields }
    → h ≡ record { raw = (blank_replica name place o).object.raw; kind = (blank_replica name place o).object.kind; len = length (blank_replica name place o).object.fields }
blank_header h o place name is = is ∙ (λ i. record { raw = o.raw; kind = o.kind; len = sym (length-replicate (length o.fields) (first_value o.raw)) i })

pub place-requires-clause-knows : goal.place-requires-clause-knows
place-requires-clause-knows c =
    let l = (goal.at.place-requires-clause-knows c).After-load-word in
    let h : Header = c.of_word-header.result in
    let o : Object = (told l).0 in
    let blank = blank_replica (a l).wanted (new_end (its (t l))) o in
    let fits : object_words h.len ≤ free_in (a l).space = (let f = c.has_room.ensures.0 c.if-not-has_room.false in let n = c.len.ensures in omega arith) in
    let went = placed l h c.of_word-header.ensures fits in
    let is : c.load-word.new.seat.me.0.theirs ≡ placed_one (a l).wanted o (t l) = theirs_is (a l).seat.me c.load-word.new.seat.me (placed_one (a l).wanted o (t l)) went in
    let seen : c.load-word.new.seat.me.0.seen ≡ (a l).seat.me.0.seen = ap (λ (m : Sat). m.0.seen) went in
    let header = blank_header h o (new_end (its (t l))) (a l).wanted (same_header l h c.of_word-header.ensures) in
    let long : length blank.object.fields ≡ h.len = sym (ap (λ (g : Header). g.len) header) in
    subst (λ (z : List ℕ × Theirs). ∥ ((new : List ℕ) × (before : Theirs) × Follows (a l).standing z.0 new × KnowsBefore (a l).standing z.0 new before z.1 (a l).wanted c.word.result) ∥₁) (λ i. (sym seen i, sym is i))
    (∥∥₁_elim (a l).along (hlevel props) (λ follows. ∥∥₁_elim (a l).knows (hlevel props) (λ k. ∣ (
      (a l).space.words,
      t l,
      follows,
      record {
        knows = k;
        from = refl;
        none = λ r there same. unnamed (its (t l)) (a l).wanted (none l) (subst (λ x. In x (map (λ (r : Replica). r.original) (t l).replicas)) same (in_map (λ (r : Replica). r.original) r (t l).replicas there));
        replica = blank;
        there = in_right blank (t l).replicas (blank ∷ []) (inl refl);
        original = refl;
        header = c.word.ensures.read_back ∙ ap (λ (g : Header). Some g) header;
        room = (let s = (a l).sized.1 in let e = (a l).shaped.end_high in omega arith);
        low = (let w = low (a l) c.requires.wanted in omega arith);
        high = old_high (t l) (a l).loose;
      },
    ) ∣₁)))

pub claim-requires : goal.claim-requires
claim-requires c = let l = low c.args.self.now c.requires.wanted in let n = c.args.self.now.claimed.long in omega arith

-- only raw objects are filled
fills_raw : (raw : Bool) (len : ℕ) → ((if raw then len else 0) ≡ 0 → ⊥) → raw ≡ true
fills_raw true len n = refl
fills_raw false len n = absurd (n refl)

pub invariant_of-self-2 : goal.invariant_of-self-2
invariant_of-self-2 c =
    let l = (goal.at.invariant_of-self-2 c).After-load-word in
    let h : Header = c.of_word-header.result in
    let o : Object = (told l).0 in
    let u : Theirs = placed_one (a l).wanted o (t l) in
    let fits : object_words h.len ≤ free_in (a l).space = (let f = c.has_room.ensures.0 c.if-not-has_room.false in let n = c.len.ensures in omega arith) in
    let can : CanPlace (a l).space h = record { shaped = (a l).shaped; header = (written_back c.load-word.result h c.of_word-header.ensures).0; room = fits } in
    let went = placed l h c.of_word-header.ensures fits in
    let is : c.place.new.seat.me.0.theirs ≡ u = theirs_seen c.load-word.new.seat.me c.place.new.seat.me _ c.place.ensures.seen ∙ theirs_is (a l).seat.me c.load-word.new.seat.me u went in
    let at : c.place-at.result.0 ≡ end_of (a l).space = c.place-at.ensures.at in
    let space : c.set_link.new.self ≡ with_link (with_object (a l).space h) (end_of (a l).space) (a l).wanted = c.set_link.ensures.words ∙ (λ i. with_link (c.place-at.ensures.words i) (c.place-at.ensures.at i) (c.from.ensures i)) in
    let place : new_end (its (t l)) ≡ c.place-at.result.0 = end_is (t l) (a l).space (mem (a l)) ∙ sym at in
    let claims : c.claim.new.claims.items ≡ slice_set (a l).claims.items (half (a l).wanted) (new_end (its (t l))) = c.claim.ensures ∙ ap (slice_set (a l).claims.items (half (a l).wanted)) (sym place) in
    let td : (t l).due ≡ drop (a l).next (a l).due.items = (a l).dues.0 ∙ ap (λ n. entries_of_fields (a l).fill (a l).fill_next n ++ drop (a l).next (a l).due.items) (c.args.self.now.aimed c.requires.wanted).0 in
    let header : h ≡ record { raw = o.raw; kind = o.kind; len = length o.fields } = same_header l h c.of_word-header.ensures in
    let tf : to_fill o ≡ c.to_fill-self.result = sym (c.to_fill-self.ensures ∙ (λ i. if (header i).raw then (header i).len else 0)) in
    record {
      row = ((a l).row.0 ∙ sym (c.place.ensures.row ∙ c.load-word.ensures.0), ap (λ (i : TableId). i.words) (c.place.ensures.row ∙ c.load-word.ensures.0) ∙ (a l).row.1, (a l).row.2);
      copies = copies_seen c.load-word.new.seat.me c.place.new.seat.me _ c.place.ensures.seen (copies l);
      shaped = c.set_link.ensures.shaped;
      sized = (ap (λ (y : Theirs). y.old) is ∙ (a l).sized.0, ap (λ (x : SpaceWords). x.size) space ∙ ((a l).sized.1 ∙ sym (ap (λ (y : Theirs). y.size) is)));
      same = ap (λ (y : Theirs). y.replicas) is ∙ (placed_same (t l) (a l).space (a l).wanted h o (mem (a l)) header can ∙ ap (λ (x : SpaceWords). replicas_in x.words) (sym space));
      scans = (ap (λ (y : Theirs). y.scan_place) is ∙ (a l).scans.0, ap (λ (y : Theirs). y.scan_field) is ∙ (a l).scans.1);
      dues = (ap (λ (y : Theirs). y.due) is ∙ (λ i. entries_of_fields (a l).wanted 0 (tf i) ++ td i), (a l).dues.1, omega arith);
      wants = ap (λ (y : Theirs). y.wanted) is;
      aimed = λ w. absurd (true≢false (sym w));
      fills = λ q k e n. ⊎_elim
          (λ there. absurd (unnamed (its (t l)) (a l).wanted (none l) (subst (λ x. In x (map (λ (r : Replica). r.original) (t l).replicas)) e (in_map (λ (r : Replica). r.original) q (t l).replicas there))))
          (λ blank. sym (ap (λ (r : Replica). r.object.raw) blank) ∙ fills_raw o.raw (length o.fields) (λ z. n (sym tf ∙ z)))
          (in_push q (blank_replica (a l).wanted (new_end (its (t l))) o) (t l).replicas (subst (In q) (ap (λ (y : Theirs). y.replicas) is) k));
      claimed = subst (λ (z : List ℕ × Theirs). Claims z.0 z.1) (λ i. (sym claims i, sym is i)) (claims_placed (a l).claims.items (t l) (a l).wanted o (a l).claimed (none l) (own (a l) c.requires.wanted));
      loose = loose_seen c.load-word.new.seat.me c.place.new.seat.me _ c.place.ensures.seen (loose l);
      along = along_placed (a l).standing c.place.new.standing c.load-word.new.seat.me.0.seen c.place.new.seat.me.0.seen (a l).space c.set_link.new.self h c.word.result (a l).wanted space c.word.ensures.word c.word.ensures.read_back c.place.ensures.along
          (along_still (a l).standing (a l).seat.me c.load-word.new.seat.me (a l).space (a l).space (ap (λ (m : Sat). m.0.seen) went) refl (a l).along);
      knows = subst (λ (z : SpaceWords × Theirs). ∥ Knows c.place.new.standing c.place.new.seat.me.0.seen z.0.words z.1 ∥₁) (λ i. (sym space i, sym is i))
          (∥∥₁_elim (c.place.ensures.placed (a l).space.words (t l) (subst (λ ws. ∥ Follows (a l).standing ws (a l).space.words ∥₁) (sym (ap (λ (m : Sat). m.0.seen) went)) (a l).along)
          (subst (λ ws. ∥ Knows (a l).standing ws (a l).space.words (t l) ∥₁) (sym (ap (λ (m : Sat). m.0.seen) went)) (a l).knows)) (hlevel props) (λ p.
          ∣ placed_knows p.walked c.place.new.standing c.place.new.seat.me.0.seen (a l).space h c.word.result (a l).wanted o (t l) (mem (a l)) can c.place-at.ensures.closed (a l).loose p.rows p.knows p.placed c.word.ensures.read_back header ∣₁));
      spared = still_spared (a l) c.set_link.new.self.size (ap (λ (x : SpaceWords). x.size) space);
    }

pub returns-clause-seat : goal.returns-clause-seat
returns-clause-seat c =
    let l = (goal.at.returns-clause-seat c).After-load-word in
    keeps_seen (a l).seat.me c.load-word.new.seat.me c.place.new.seat.me _ c.place.ensures.seen (keeps_seat (a l).seat.me c.load-word.new.seat.me (placed_one (a l).wanted (told l).0 (t l)) (placed l c.of_word-header.result c.of_word-header.ensures (let f = c.has_room.ensures.0 c.if-not-has_room.false in let n = c.len.ensures in omega arith)) refl refl refl (placed_keeps (t l) (a l).wanted (told l).0) (λ w. placed_starts (a l).seat.me.0.mine (t l) (a l).wanted (told l).0 ((told l).5 w)))

pub returns-clause-nears : goal.returns-clause-nears
returns-clause-nears c _ =
    let l = (goal.at.returns-clause-nears c).After-load-word in
    let h = c.of_word-header.result in
    let header : h ≡ record { raw = (told l).0.raw; kind = (told l).0.kind; len = length (told l).0.fields } = same_header l h c.of_word-header.ensures in
    let fits : object_words h.len ≤ free_in (a l).space = (let f = c.has_room.ensures.0 c.if-not-has_room.false in let n = c.len.ensures in omega arith) in
    let went = placed l h c.of_word-header.ensures fits in
    let room = room_told (t l) (a l).space (length (told l).0.fields) (mem (a l)) (let n = ap (λ (x : Header). x.len) header in omega arith) in
    nears_seen (a l).seat.me c.load-word.new.seat.me c.place.new.seat.me _ c.place.ensures.seen (nears_placed (a l).seat.me c.load-word.new.seat.me (a l).wanted (told l).0 went (a l).loose (told l).4 room)

pub returns-clause-placed : goal.returns-clause-placed
returns-clause-placed c _ =
    let l = (goal.at.returns-clause-placed c).After-load-word in
    let u : Theirs = placed_one (a l).wanted (told l).0 (t l) in
    let went = placed l c.of_word-header.result c.of_word-header.ensures (let f = c.has_room.ensures.0 c.if-not-has_room.false in let n = c.len.ensures in omega arith) in
    let is : c.place.new.seat.me.0.theirs ≡ u = theirs_seen c.load-word.new.seat.me c.place.new.seat.me _ c.place.ensures.seen ∙ theirs_is (a l).seat.me c.load-word.new.seat.me u went in
    subst (λ (y : Theirs). IsSome (replica_of (its y) (a l).wanted)) (sym is) (placed_there (t l) (a l).wanted (told l).0)
