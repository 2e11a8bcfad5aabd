-- A field is read and written, or the scan pointer goes on.
use Rattle.std.proofs.Common.{rules, ◌≡◌, ◌≢◌, ◌⊎◌, ℕ, suc, ◌+◌, ◌<◌, ◌≤◌, Bool, true, false, true≢false, List, [], ◌∷◌, ◌++◌, drop, length, slice_index, Some, None, refl, ap, sym, ◌∙◌, subst, inl, inr, ⊎_elim, arith}
use Rattle.std.specs.Prelude.{slice_set, IsSome, if◌then◌else◌}
use Rattle.atomic_table.specs.Seated.{TableId}
use Rattle.gc_graph.specs.Graph.{Value, Ref}
use Rattle.gc_words.specs.Word.{value_of, is_value}
use Rattle.gc_words.specs.Layout.{field_place}
use Rattle.gc_words.specs.Image.{field_at}
use Rattle.gc_words.specs.Spelling.{link_at}
use Rattle.gc_words.specs.Closed.{IsWordOfField}
use Rattle.gc_words.specs.Space.{SpaceWords, with_field_at}
use Rattle.gc_words.specs.declared.header.Header.{Header}
use Rattle.gc_words.proofs.Public.{field_within}
use Rattle.gc_model.specs.State.{Replica, moved}
use Rattle.gc_copy.specs.Words.{replicas_in}
use Rattle.gc_concurrent.specs.declared.copier.Copier.{Copier}
use Rattle.gc_concurrent.specs.Ends.{Theirs}
use Rattle.gc_concurrent.specs.Internal.Rule.{Sat, Loose, scanned, brought, wants, after_read, lacks, read_as, passed}
use Rattle.gc_concurrent.specs.Ends.{its}
use Rattle.gc_concurrent.specs.Moves.{half}
use Rattle.gc_concurrent.specs.Internal.Copiers.{Claims, HasOwnHalf, moved_by}
use Rattle.gc_concurrent.proofs.TiedCells.{tied, tied_words}
use Rattle.gc_concurrent.proofs.Copying.{scans_at}
use Rattle.gc_concurrent.proofs.Placing.{passes}
use Rattle.gc_concurrent.proofs.Halves.{target_own}
use Rattle.gc_concurrent.proofs.Memory.{end_is, near, field_word_moved, old_high, scan_low, brought_keeps, brought_starts, lacks_not, lacks_so, moves_so, claims_kept, claims_as, claim_low, written_same}
use Rattle.gc_concurrent.proofs.InHand.{mem, still_spared, word_fits, at_scan, scan_left, scan_over, header_there, keeps_seat, theirs_is, copies_is}
use Rattle.gc_concurrent.proofs.Nearing.{nears_by, scan_within, passed_nears, scanned_nears, wants_nears}
use Rattle.gc_concurrent.specs.Internal.Following.{Follows}
use Rattle.gc_concurrent.specs.Internal.Knowing.{Brings, Compared, Knows}
use Rattle.gc_concurrent.proofs.Knowing.{passed_brings, scanned_brings, wants_brings}
use Rattle.gc_concurrent.proofs.Known.{has_passed, is_found, its_origin, knows_compared, knows_kept}
use Rattle.gc_concurrent.proofs.Comparing.{theirs_seen, copies_seen, keeps_seen, nears_seen, loose_seen, along_still, along_written, can_compare, word_there}
use Rattle.gc_concurrent.proofs.copier.Copier.scan_one.Goals as goal
use Rattle.gc_concurrent.proofs.copier.Copier.scan_one.Goals.{After-load-word}

pub header-header-requires : goal.header-header-requires
header-header-requires c = let s = at_scan c.args.self.now c.requires.low in ap Rattle.std.proofs.Common.is_some s.found

-- ---- behind a replica

pub load-requires : goal.load-requires
load-requires c =
    let a = c.args.self.now in
    let s = at_scan a c.requires.low in (
      tied _ _ _ c.deref-cells.ensures a.row.0,
      (let n = near a.seat.me.0.theirs a.loose s.replica s.there in let o = a.sized.0 in let w = tied_words _ _ _ _ c.deref-cells.ensures a.row.0 a.row.1 in omega arith),
      passes _ _ _ _ _ s.replica a.copies s.there (s.place_is ∙ sym a.scans.0) (scan_over a c.requires.low c.header-header.result c.header-header.ensures (c.is_scanned.ensures.done c.if-is_scanned.true)),
    )

pub invariant_of-self : goal.invariant_of-self
invariant_of-self c =
    let a = c.args.self.now in
    let t = a.seat.me.0.theirs in
    let s = at_scan a c.requires.low in
    let u : Theirs = passed s.replica t in
    let went = c.load.ensures.2.0 s.replica s.there (s.place_is ∙ sym a.scans.0) (scan_over a c.requires.low c.header-header.result c.header-header.ensures (c.is_scanned.ensures.done c.if-is_scanned.true)) in
    let is : c.load.new.seat.me.0.theirs ≡ u = theirs_is a.seat.me c.load.new.seat.me u went in
    let copies : c.load.new.seat.me.0.copies ≡ true = copies_is a.seat.me c.load.new.seat.me u went a.copies in
    let same = header_there a.space.words a.scan_place s.block c.header-header.result s.found c.header-header.ensures in
    let many : length s.replica.object.fields ≡ c.header-header.result.len = s.many ∙ ap (λ (x : Header). x.len) same in
    record {
      row = (a.row.0 ∙ sym c.load.ensures.0, ap (λ (i : TableId). i.words) c.load.ensures.0 ∙ a.row.1, a.row.2);
      copies = copies;
      shaped = a.shaped;
      sized = (ap (λ (x : Theirs). x.old) is ∙ a.sized.0, a.sized.1 ∙ sym (ap (λ (x : Theirs). x.size) is));
      same = ap (λ (x : Theirs). x.replicas) is ∙ a.same;
      scans = (
        (let p = ap (λ (x : Theirs). x.scan_place) is in let at = a.scans.0 in omega (arith, many, c.object_words.ensures, c.len.ensures)),
        ap (λ (x : Theirs). x.scan_field) is,
      );
      dues = (ap (λ (x : Theirs). x.due) is ∙ a.dues.0, a.dues.1, a.dues.2);
      wants = ap (λ (x : Theirs). x.wanted) is ∙ a.wants;
      aimed = λ w. absurd (true≢false (sym w ∙ c.requires.clear));
      fills = λ q k e n. absurd (n c.requires.filled);
      claimed = subst (Claims a.claims.items) (sym is) (claims_as a.claims.items t u refl refl a.claimed);
      loose = c.load.ensures.2.1 copies;
      along = along_still a.standing a.seat.me c.load.new.seat.me a.space c.args.self.now.space (ap (λ (m : Sat). m.0.seen) went) refl a.along;
      knows = knows_kept a.standing a.seat.me c.load.new.seat.me a.space c.args.self.now.space u (ap (λ (m : Sat). m.0.seen) went) refl is
          (passed_brings t s.replica a.loose s.there (s.place_is ∙ sym a.scans.0) (scan_over a c.requires.low c.header-header.result c.header-header.ensures (c.is_scanned.ensures.done c.if-is_scanned.true))) a.knows;
      spared = a.spared;
    }

pub overflow_add-self : goal.overflow_add-self
overflow_add-self c =
    let a = c.args.self.now in
    let s = at_scan a c.requires.low in
    let same = header_there a.space.words a.scan_place s.block c.header-header.result s.found c.header-header.ensures in
    let many : length s.replica.object.fields ≡ c.header-header.result.len = s.many ∙ ap (λ (x : Header). x.len) same in
    let within = scan_within a.seat.me.0.theirs a.loose s.replica s.there (s.place_is ∙ sym a.scans.0) in
    let end = end_is a.seat.me.0.theirs a.space (mem a) in
    let high = a.shaped.end_high in let most = a.shaped.size_high in let at = a.scans.0 in
    omega (arith, c.object_words.ensures, c.len.ensures)

pub returns-then-is_scanned-clause-seat : goal.returns-then-is_scanned-clause-seat
returns-then-is_scanned-clause-seat c =
    let a = c.args.self.now in
    let s = at_scan a c.requires.low in
    keeps_seat a.seat.me c.load.new.seat.me (passed s.replica a.seat.me.0.theirs)
    (c.load.ensures.2.0 s.replica s.there (s.place_is ∙ sym a.scans.0) (scan_over a c.requires.low c.header-header.result c.header-header.ensures (c.is_scanned.ensures.done c.if-is_scanned.true))) refl refl refl (λ x there. there) (λ w starts. starts)

-- ---- a field

pub link-requires : goal.link-requires
link-requires c = let s = at_scan c.args.self.now c.requires.low in
    ap Rattle.std.proofs.Common.is_some s.found

-- the link that was read after the header
link_is : (a : Copier) (space : SpaceWords) (link : ℕ) → space ≡ a.space → link ≡ link_at space.words a.scan_place → link ≡ link_at a.space.words a.scan_place
link_is a space link same e = e ∙ ap (λ (x : SpaceWords). link_at x.words a.scan_place) same

pub overflow_cast-original : goal.overflow_cast-original
overflow_cast-original c =
    let a = c.args.self.now in
    let s = at_scan a c.requires.low in
    let n = near a.seat.me.0.theirs a.loose s.replica s.there in let o = old_high a.seat.me.0.theirs a.loose in let l = s.link in let e = link_is a c.args.self.now.space c.link.result refl c.link.ensures in omega arith

place_of : (a : Copier) (q : Replica) (link k : ℕ) → k ≡ field_place link a.scan_field → q.original ≡ link → k ≡ field_place q.original a.seat.me.0.theirs.scan_field
place_of a q link k e l = e ∙ (λ i. field_place (sym l i) (sym a.scans.1 i))

pub load-word-requires : goal.load-word-requires
load-word-requires c =
    let a = c.args.self.now in
    let s = at_scan a c.requires.low in
    let left = scan_left a c.requires.low c.header-header.result c.header-header.ensures (c.is_scanned.ensures.left c.if-is_scanned.false) in
    let is = place_of a s.replica c.link.result c.field_index.result c.field_index.ensures (s.link ∙ sym (link_is a c.args.self.now.space c.link.result refl c.link.ensures)) in (
      tied _ _ _ c.deref-cells.ensures a.row.0,
      (let n = near a.seat.me.0.theirs a.loose s.replica s.there in let o = a.sized.0 in let w = tied_words _ _ _ _ c.deref-cells.ensures a.row.0 a.row.1 in let f = left.1 in omega arith),
      scans_at _ _ _ _ s.replica _ is a.copies s.there (s.place_is ∙ sym a.scans.0) left.0 left.1,
    )

module _ (c : After-load-word) where
  abbrev a : Copier
  a = c.args.self.now

  abbrev t : Theirs
  t = c.args.self.now.seat.me.0.theirs

  abbrev q : Replica
  q = (at_scan c.args.self.now c.requires.low).replica

  abbrev v : Value
  v = value_of c.load-word.result

  left : (q.object.raw ≡ false) × (t.scan_field < length q.object.fields)
  left = scan_left a c.requires.low c.header-header.result c.header-header.ensures (c.is_scanned.ensures.left c.if-is_scanned.false)

  told : (is_value c.load-word.result ≡ true) × (c.load-word.new.seat.me ≡ (record a.seat.me.0 { theirs = after_read (scanned q.original t.scan_field v) (lacks (its t) v) t }, a.seat.me.1))
  told = let s = at_scan a c.requires.low in
      c.load-word.ensures.2.0 q s.there (s.place_is ∙ sym a.scans.0) left.0 left.1 (place_of a q c.link.result c.field_index.result c.field_index.ensures (s.link ∙ sym (link_is a c.args.self.now.space c.link.result refl c.link.ensures)))

  after : Theirs
  after = after_read (scanned q.original t.scan_field v) (lacks (its t) v) t

  loose : ∥ Loose c.load-word.new.seat.me.0.theirs ∥₁
  loose = c.load-word.ensures.2.1 (copies_is a.seat.me c.load-word.new.seat.me (after_read (scanned q.original t.scan_field v) (lacks (its t) v) t) told.1 a.copies)

  own : (x : ℕ) → v ≡ Ref x → HasOwnHalf t x
  own x is = target_own t v (scanned q.original t.scan_field v) a.loose
      (subst (λ (y : Theirs). ∥ Loose y ∥₁) (theirs_is a.seat.me c.load-word.new.seat.me (after_read (scanned q.original t.scan_field v) (lacks (its t) v) t) told.1) loose) x is

pub moved_word-requires-clause-value : goal.moved_word-requires-clause-value
moved_word-requires-clause-value c = (told (goal.at.moved_word-requires-clause-value c).After-load-word).0

pub moved_word-requires-clause-inside : goal.moved_word-requires-clause-inside
moved_word-requires-clause-inside c x is =
    let b = (own (goal.at.moved_word-requires-clause-inside c).After-load-word x is).near in
    let n = ap (length {A = ℕ}) c.as_slice.ensures.value in let m = c.args.self.now.claimed.long in omega arith

pub moved_word-requires-clause-places : goal.moved_word-requires-clause-places
moved_word-requires-clause-places c = subst (λ (row : List ℕ). (a : ℕ) → slice_index row a < 4294967295) (sym c.as_slice.ensures.value) (claim_low c.args.self.now.claims.items c.args.self.now.seat.me.0.theirs c.args.self.now.loose c.args.self.now.claimed)

pub wrote-written-requires-clause-there : goal.wrote-written-requires-clause-there
wrote-written-requires-clause-there c =
    let a = c.args.self.now in
    field_within a.space.words a.scan_place a.scan_field c.header-header.result a.shaped.walked c.header-header.ensures (c.is_scanned.ensures.left c.if-is_scanned.false).1

-- what was written refers to replicas
pub wrote-written-requires-clause-fits : goal.wrote-written-requires-clause-fits
wrote-written-requires-clause-fits c =
    let l = (goal.at.wrote-written-requires-clause-fits c).After-load-word in
    let plain = (c.is_scanned.ensures.left c.if-is_scanned.false).0 in
    let word : IsWordOfField false (a l).space.words c.in-Ok.moved = field_word_moved false (a l).claims.items (t l) (a l).space c.load-word.result c.in-Ok.moved (mem (a l)) (a l).claimed (told l).0
    (c.in-Ok.ensures.moved ∙ ap (λ (r : List ℕ). moved_by r (v l)) c.as_slice.ensures.value) (λ _. c.in-Ok.ensures.value) (own l)
    (subst (λ (r : List ℕ). (x : ℕ) → v l ≡ Ref x → slice_index r (half x) ≢ 0) c.as_slice.ensures.value c.in-Ok.ensures.placed) in
    word_fits (a l).space.words (a l).scan_place c.in-Ok.moved c.header-header.result c.header-header.ensures (subst (λ b. IsWordOfField b (a l).space.words c.in-Ok.moved) (sym plain) word)
    (a l).space refl

-- the view after the read, where the target has a replica or there is none
follows : (c : After-load-word) → lacks (its (t c)) (v c) ≡ None → c.load-word.new.seat.me ≡ (record (a c).seat.me.0 { theirs = scanned (q c).original (t c).scan_field (v c) (t c) }, (a c).seat.me.1)
follows c nl = (told c).1 ∙ (λ i. (record (a c).seat.me.0 { theirs = after_read (scanned (q c).original (t c).scan_field (v c)) (nl i) (t c) }, (a c).seat.me.1))

-- the view after the read, where the target is wanted
wanting : (c : After-load-word) (x : ℕ) → lacks (its (t c)) (v c) ≡ Some x → c.load-word.new.seat.me ≡ (record (a c).seat.me.0 { theirs = wants x (t c) }, (a c).seat.me.1)
wanting c x is = (told c).1 ∙ (λ i. (record (a c).seat.me.0 { theirs = after_read (scanned (q c).original (t c).scan_field (v c)) (is i) (t c) }, (a c).seat.me.1))

none_lacks : (c : After-load-word) (row : List ℕ) → row ≡ (a c).claims.items → ((x : ℕ) → v c ≡ Ref x → slice_index row (half x) ≢ 0) → (lacks (its (t c)) (v c) ≡ None) × (moved (its (t c)) (v c) ≡ moved_by row (v c))
none_lacks c row e ne =
    let ne' = subst (λ (r : List ℕ). (x : ℕ) → v c ≡ Ref x → slice_index r (half x) ≢ 0) e ne in (
      lacks_not (a c).claims.items (t c) (v c) (a c).claimed (own c) ne',
      moves_so (a c).claims.items (t c) (v c) (a c).claimed (own c) ne' ∙ ap (λ (r : List ℕ). moved_by r (v c)) (sym e),
    )

one_lacks : (c : After-load-word) (row : List ℕ) (x : ℕ) → row ≡ (a c).claims.items → v c ≡ Ref x → slice_index row (half x) ≡ 0 → lacks (its (t c)) (v c) ≡ Some x
one_lacks c row x e is zero = lacks_so (a c).claims.items (t c) (v c) x (a c).loose (a c).claimed (own c x is) is (ap (λ (r : List ℕ). slice_index r (half x)) (sym e) ∙ zero)

pub compare-requires-clause-copies : goal.compare-requires-clause-copies
compare-requires-clause-copies c =
    let l = (goal.at.compare-requires-clause-copies c).After-load-word in
    copies_is (a l).seat.me c.load-word.new.seat.me (after_read (scanned (q l).original (t l).scan_field (v l)) (lacks (its (t l)) (v l)) (t l)) (told l).1 (a l).copies

pub compare-requires-clause-along : goal.compare-requires-clause-along
compare-requires-clause-along c =
    let l = (goal.at.compare-requires-clause-along c).After-load-word in
    can_compare (a l).standing c.load-word.new.seat.me.0.seen (a l).space.words (a l).scan_place c.word.result
    (word_there (a l).space.words (a l).scan_place c.word.result c.header-header.result (a l).shaped.walked c.header-header.ensures c.word.ensures.word)
    (along_still (a l).standing (a l).seat.me c.load-word.new.seat.me (a l).space (a l).space (ap (λ (m : Sat). m.0.seen) (told l).1) refl (a l).along)

pub compare-requires-clause-found : goal.compare-requires-clause-found
compare-requires-clause-found c = is_found c.args.self.now

pub compare-requires-clause-passed : goal.compare-requires-clause-passed
compare-requires-clause-passed c =
    let l = (goal.at.compare-requires-clause-passed c).After-load-word in
    let s = at_scan (a l) c.requires.low in
    has_passed (a l) s.replica (a l).scan_field (a l).scan_place c.word.result s.there s.place_is (let m = (left l).1 in let e = (a l).scans.1 in omega arith)
    (word_there (a l).space.words (a l).scan_place c.word.result c.header-header.result (a l).shaped.walked c.header-header.ensures c.word.ensures.word)

pub compare-requires-clause-low : goal.compare-requires-clause-low
compare-requires-clause-low c =
    let l = (goal.at.compare-requires-clause-low c).After-load-word in
    let s = at_scan (a l) c.requires.low in
    let e = its_origin (a l) s.replica (a l).scan_place s.there s.place_is in
    let n = near (t l) (a l).loose s.replica s.there in
    let o = (a l).sized.0 in let m = (left l).1 in let f = (a l).scans.1 in omega arith

pub invariant_of-self-in-Ok : goal.invariant_of-self-in-Ok
invariant_of-self-in-Ok c =
    let l = (goal.at.invariant_of-self-in-Ok c).After-load-word in
    let s = at_scan (a l) c.requires.low in
    let n = none_lacks l c.as_slice.result.now c.as_slice.ensures.value c.in-Ok.ensures.placed in
    let u : Theirs = scanned (q l).original (t l).scan_field (v l) (t l) in
    let went = follows l n.0 in
    let is : c.compare.new.seat.me.0.theirs ≡ u = theirs_seen c.load-word.new.seat.me c.compare.new.seat.me _ c.compare.ensures.seen ∙ theirs_is (a l).seat.me c.load-word.new.seat.me u went in
    let copies : c.compare.new.seat.me.0.copies ≡ true = copies_seen c.load-word.new.seat.me c.compare.new.seat.me _ c.compare.ensures.seen (copies_is (a l).seat.me c.load-word.new.seat.me u went (a l).copies) in
    let means : read_as (q l).object.raw c.in-Ok.moved ≡ moved (its (t l)) (v l) = ap (λ b. read_as b c.in-Ok.moved) (left l).0 ∙ (c.in-Ok.ensures.moved ∙ sym n.1) in
    let there = subst (λ (x : ℕ × ℕ). IsSome (field_at (a l).space.words x.0 x.1)) (λ i. (sym s.place_is i, sym (a l).scans.1 i))
    (field_within (a l).space.words (a l).scan_place (a l).scan_field c.header-header.result (a l).shaped.walked c.header-header.ensures (c.is_scanned.ensures.left c.if-is_scanned.false).1) in
    let there_field : IsSome (field_at (a l).space.words (a l).scan_place (a l).scan_field) = field_within (a l).space.words (a l).scan_place (a l).scan_field c.header-header.result (a l).shaped.walked c.header-header.ensures (c.is_scanned.ensures.left c.if-is_scanned.false).1 in
    let wrote : u.replicas ≡ replicas_in (with_field_at (a l).space (q l).place (t l).scan_field c.in-Ok.moved).words = written_same (t l) (a l).space (q l) (t l).scan_field c.in-Ok.moved (v l) (mem (a l)) (a l).loose s.there there means in
    let space : c.wrote-written.new.space ≡ with_field_at (a l).space (q l).place (t l).scan_field c.in-Ok.moved = c.wrote-written.ensures.words ∙ (λ i. with_field_at (a l).space (sym s.place_is i) (sym (a l).scans.1 i) c.in-Ok.moved) in
    record {
      row = ((a l).row.0 ∙ sym (c.compare.ensures.row ∙ c.load-word.ensures.0), ap (λ (i : TableId). i.words) (c.compare.ensures.row ∙ c.load-word.ensures.0) ∙ (a l).row.1, (a l).row.2);
      copies = copies;
      shaped = c.wrote-written.ensures.shaped;
      sized = (ap (λ (x : Theirs). x.old) is ∙ (a l).sized.0, ap (λ (x : SpaceWords). x.size) space ∙ ((a l).sized.1 ∙ sym (ap (λ (x : Theirs). x.size) is)));
      same = ap (λ (x : Theirs). x.replicas) is ∙ (wrote ∙ ap (λ (x : SpaceWords). replicas_in x.words) (sym space));
      scans = (ap (λ (x : Theirs). x.scan_place) is ∙ (a l).scans.0, (let e = ap (λ (x : Theirs). x.scan_field) is in let f = (a l).scans.1 in omega arith));
      dues = (ap (λ (x : Theirs). x.due) is ∙ (a l).dues.0, (a l).dues.1, (a l).dues.2);
      wants = ap (λ (x : Theirs). x.wanted) is ∙ (a l).wants;
      aimed = λ w. absurd (true≢false (sym w ∙ c.requires.clear));
      fills = λ q k e n. absurd (n c.requires.filled);
      claimed = subst (Claims (a l).claims.items) (sym is) (claims_as (a l).claims.items (brought (q l).original (t l).scan_field (v l) (t l)) u refl refl (claims_kept (a l).claims.items (t l) (q l).original (t l).scan_field (v l) (a l).claimed));
      loose = loose_seen c.load-word.new.seat.me c.compare.new.seat.me _ c.compare.ensures.seen (loose l);
      along = along_written (a l).standing c.compare.new.standing (a l).seat.me.0.seen c.compare.new.seat.me.0.seen (a l).space c.wrote-written.new.space c.wrote-written.new.space
          (a l).scan_place (a l).scan_field c.word.result c.in-Ok.moved c.wrote-written.result (a l).shaped (there_field) c.wrote-written.ensures.words refl
          c.wrote-written.ensures.value (word_there (a l).space.words (a l).scan_place c.word.result c.header-header.result (a l).shaped.walked c.header-header.ensures c.word.ensures.word)
          (λ ws. subst (λ z. slice_index ws (a l).scan_place ≡ c.word.result → field_place (a l).scan_place (a l).scan_field < length ws → ∥ Follows (a l).standing z ws ∥₁ → ∥ Follows c.compare.new.standing c.compare.new.seat.me.0.seen (slice_set ws (field_place (a l).scan_place (a l).scan_field) c.wrote-written.result) ∥₁) (ap (λ (m : Sat). m.0.seen) went) (c.compare.ensures.along ws)) (a l).along;
      knows = subst (λ (y : Theirs). ∥ Knows c.compare.new.standing c.compare.new.seat.me.0.seen c.wrote-written.new.space.words y ∥₁) (sym is)
          (knows_compared (a l) c.compare.new.standing c.compare.new.seat.me.0.seen c.wrote-written.new.space c.wrote-written.new.space s.replica (a l).scan_place (a l).scan_field c.word.result c.in-Ok.moved c.wrote-written.result u
          s.there s.place_is (let m = (left l).1 in let e = (a l).scans.1 in omega arith)
          (word_there (a l).space.words (a l).scan_place c.word.result c.header-header.result (a l).shaped.walked c.header-header.ensures c.word.ensures.word)
          there_field c.wrote-written.ensures.words refl c.wrote-written.ensures.value
          (subst (λ z. slice_index (a l).space.words (a l).scan_place ≡ c.word.result → field_place (a l).scan_place (a l).scan_field < length (a l).space.words → ∥ Follows (a l).standing z (a l).space.words ∥₁
          → ∥ Compared (a l).scan_place (a l).scan_field (a l).standing c.compare.new.standing z c.compare.new.seat.me.0.seen (slice_set (a l).space.words (field_place (a l).scan_place (a l).scan_field) c.wrote-written.result) ∥₁)
          (ap (λ (m : Sat). m.0.seen) went) (c.compare.ensures.compared (a l).space.words))
          (subst (λ (z : ℕ × ℕ). Brings (λ p. p ≡ field_place z.0 z.1) (t l) u) (λ n. (s.place_is n, (a l).scans.1 n)) (scanned_brings (t l) s.replica (v l) (s.place_is ∙ sym (a l).scans.0))));
      spared = still_spared (a l) c.wrote-written.new.space.size (ap (λ (x : SpaceWords). x.size) space);
    }

pub invariant_of-self-in-Err : goal.invariant_of-self-in-Err
invariant_of-self-in-Err c =
    let l = (goal.at.invariant_of-self-in-Err c).After-load-word in
    let x : ℕ = c.in-Err.target.0 in
    let u : Theirs = wants x (t l) in
    let went = wanting l x (one_lacks l c.as_slice.result.now x c.as_slice.ensures.value c.in-Err.ensures.wanted.0 c.in-Err.ensures.wanted.1) in
    let is : c.load-word.new.seat.me.0.theirs ≡ u = theirs_is (a l).seat.me c.load-word.new.seat.me u went in
    let copies : c.load-word.new.seat.me.0.copies ≡ true = copies_is (a l).seat.me c.load-word.new.seat.me u went (a l).copies in
    record {
      row = ((a l).row.0 ∙ sym c.load-word.ensures.0, ap (λ (i : TableId). i.words) c.load-word.ensures.0 ∙ (a l).row.1, (a l).row.2);
      copies = copies;
      shaped = (a l).shaped;
      sized = (ap (λ (y : Theirs). y.old) is ∙ (a l).sized.0, (a l).sized.1 ∙ sym (ap (λ (y : Theirs). y.size) is));
      same = ap (λ (y : Theirs). y.replicas) is ∙ (a l).same;
      scans = (ap (λ (y : Theirs). y.scan_place) is ∙ (a l).scans.0, ap (λ (y : Theirs). y.scan_field) is ∙ (a l).scans.1);
      dues = (ap (λ (y : Theirs). y.due) is ∙ (a l).dues.0, (a l).dues.1, (a l).dues.2);
      wants = ap (λ (y : Theirs). y.wanted) is;
      aimed = λ _. (c.requires.filled, ap (λ (r : List ℕ). slice_index r (half x)) (sym c.as_slice.ensures.value) ∙ c.in-Err.ensures.wanted.1);
      fills = λ q k e n. absurd (n c.requires.filled);
      claimed = subst (Claims (a l).claims.items) (sym is) (claims_as (a l).claims.items (t l) u refl refl (a l).claimed);
      loose = loose l;
      along = along_still (a l).standing (a l).seat.me c.load-word.new.seat.me (a l).space c.args.self.now.space (ap (λ (m : Sat). m.0.seen) went) refl (a l).along;
      knows = knows_kept (a l).standing (a l).seat.me c.load-word.new.seat.me (a l).space c.args.self.now.space u (ap (λ (m : Sat). m.0.seen) went) refl is (wants_brings x (t l)) (a l).knows;
      spared = (a l).spared;
    }

pub returns-in-Ok-clause-seat : goal.returns-in-Ok-clause-seat
returns-in-Ok-clause-seat c =
    let l = (goal.at.returns-in-Ok-clause-seat c).After-load-word in
    keeps_seen (a l).seat.me c.load-word.new.seat.me c.compare.new.seat.me _ c.compare.ensures.seen (keeps_seat (a l).seat.me c.load-word.new.seat.me (scanned (q l).original (t l).scan_field (v l) (t l)) (follows l (none_lacks l c.as_slice.result.now c.as_slice.ensures.value c.in-Ok.ensures.placed).0) refl refl refl (brought_keeps (t l) (q l).original (t l).scan_field (v l)) (λ w. brought_starts (a l).seat.me.0.mine (t l) (q l).original (t l).scan_field (v l)))

pub returns-in-Err-clause-seat : goal.returns-in-Err-clause-seat
returns-in-Err-clause-seat c =
    let l = (goal.at.returns-in-Err-clause-seat c).After-load-word in
    let x : ℕ = c.in-Err.target.0 in
    keeps_seat (a l).seat.me c.load-word.new.seat.me (wants x (t l)) (wanting l x (one_lacks l c.as_slice.result.now x c.as_slice.ensures.value c.in-Err.ensures.wanted.0 c.in-Err.ensures.wanted.1)) refl refl refl (λ y there. there) (λ w starts. starts)

pub returns-then-is_scanned-clause-nears : goal.returns-then-is_scanned-clause-nears
returns-then-is_scanned-clause-nears c =
    let a = c.args.self.now in
    let t = a.seat.me.0.theirs in
    let s = at_scan a c.requires.low in
    let at = s.place_is ∙ sym a.scans.0 in
    nears_by a.seat.me c.load.new.seat.me (passed s.replica t)
    (c.load.ensures.2.0 s.replica s.there at (scan_over a c.requires.low c.header-header.result c.header-header.ensures (c.is_scanned.ensures.done c.if-is_scanned.true)))
    (λ end. passed_nears end t s.replica (scan_low t a.space (mem a) a.loose (let e = a.scans.0 in let l = c.requires.low in omega arith) s.replica s.there at) (scan_within t a.loose s.replica s.there at))

pub returns-in-Ok-clause-nears : goal.returns-in-Ok-clause-nears
returns-in-Ok-clause-nears c =
    let l = (goal.at.returns-in-Ok-clause-nears c).After-load-word in
    let s = at_scan (a l) c.requires.low in
    nears_seen (a l).seat.me c.load-word.new.seat.me c.compare.new.seat.me _ c.compare.ensures.seen (nears_by (a l).seat.me c.load-word.new.seat.me (scanned (q l).original (t l).scan_field (v l) (t l)) (follows l (none_lacks l c.as_slice.result.now c.as_slice.ensures.value c.in-Ok.ensures.placed).0)
    (λ end. scanned_nears end (t l) (q l).original (v l) (length (q l).object.fields) (left l).1 (scan_within (t l) (a l).loose (q l) s.there (s.place_is ∙ sym (a l).scans.0))))

pub returns-in-Err-clause-nears : goal.returns-in-Err-clause-nears
returns-in-Err-clause-nears c =
    let l = (goal.at.returns-in-Err-clause-nears c).After-load-word in
    let x : ℕ = c.in-Err.target.0 in
    nears_by (a l).seat.me c.load-word.new.seat.me (wants x (t l)) (wanting l x (one_lacks l c.as_slice.result.now x c.as_slice.ensures.value c.in-Err.ensures.wanted.0 c.in-Err.ensures.wanted.1))
    (λ end. wants_nears end x (t l) ((a l).wants ∙ ap (λ b. if b then (a l).wanted ∷ [] else []) c.requires.clear))
