-- The standing checker accepts each collection with nothing left to do.
use Rattle.std.proofs.Common.{◌≡◌, inl, inr, ⊎_elim, ℕ, zero, suc, ◌<◌, Bool, true, false, List, [], ◌∷◌, length, map, Option, Some, None, All, refl, ap, sym, ◌∙◌, subst, arith}
use Rattle.std.specs.Prelude.{slice_get, slice_index, IsSome}
use Rattle.std.specs.List.{AllZip}
use Rattle.std.proofs.Math.Logic.{∥∥₁_elim}
use Rattle.std.proofs.Props.{props}
use Rattle.std.proofs.lemmas.Bool.{cases_Bool, eqb-true}
use Rattle.gc_words.specs.Word.{field_words_correspond, words_correspond}
use Rattle.gc_words.specs.Image.{Block, Image, IsShaped, block_at, field_at, field_in, header_of}
use Rattle.gc_words.specs.Layout.{field_place}
use Rattle.gc_words.specs.Certificate.{BlocksCorrespond, Certified}
use Rattle.gc_words.specs.Space.{SpaceWords, image_with}
use Rattle.gc_words.specs.declared.header.Header.{Header}
use Rattle.gc_words.proofs.Public.{field_read, field_within}
use Rattle.gc_model.specs.State.{Replica, pairs_of, new_end}
use Rattle.gc_model.specs.Steps.{scan_done}
use Rattle.gc_model.specs.Members.{In}
use Rattle.gc_model.specs.Belonging.{IsDue}
use Rattle.gc_model.specs.Linked.{new_links}
use Rattle.gc_model.proofs.Public.{in_map, laid_range, pair, placed, replicas_end}
use Rattle.gc_monitor.specs.Tables.{Tables, watch_of}
use Rattle.gc_monitor.specs.Outline.{outline_of}
use Rattle.gc_monitor.specs.Watch.{IsSized, is_due_at}
use Rattle.gc_monitor.specs.Claims.{Accepts}
use Rattle.gc_monitor.proofs.Public.{all_done, all_of}
use Rattle.gc_concurrent.specs.Ends.{Mine, Theirs, its}
use Rattle.gc_concurrent.specs.Internal.Rule.{Loose}
use Rattle.gc_concurrent.specs.Internal.Flip.{Flips, Holds, moved_words}
use Rattle.gc_concurrent.specs.Internal.Following.{Follows}
use Rattle.gc_concurrent.specs.Internal.Knowing.{alike, IsSeenToDiffer, Knows}
use Rattle.gc_concurrent.proofs.Knowing.{in_memory, original_there}

-- each element of a list, as its places have it
of_all : {X : Type 0} (P : X → Type 0) (xs : List X) (x : X) → All P xs → In x xs → P x
of_all P [] x all there = absurd there
of_all P (y ∷ xs) x all (inl e) = subst P e (all 0 y (omega arith))
of_all P (y ∷ xs) x all (inr h) = of_all P xs x (λ k d l. all (suc k) d (omega arith)) h

zip_at : (R : ℕ → ℕ → Type 0) (vs us : List ℕ) (i v u : ℕ) → AllZip R vs us → slice_get vs i ≡ Some v → slice_get us i ≡ Some u → R v u
zip_at R (x ∷ vs) (y ∷ us) zero v u all e f = subst (λ (z : ℕ × ℕ). R z.0 z.1) (λ k. ((let p : x ≡ v = cc e in p) k, (let q : y ≡ u = cc f in q) k)) all.0
zip_at R (x ∷ vs) (y ∷ us) (suc i) v u all e f = zip_at R vs us i v u all.1 e f
zip_at R [] us i v u all e f = absurd (let no : None ≡ Some v = e in cc)
zip_at R (x ∷ vs) [] i v u all e f = absurd (let no : None ≡ Some u = f in cc)

-- fields of blocks that correspond
fields_alike : (pairs : List (ℕ × ℕ)) (o q : Option Block) (i v u : ℕ) (raw : Bool) → BlocksCorrespond pairs o q → field_in o i ≡ Some v → field_in q i ≡ Some u → ((b : Block) → q ≡ Some b → raw ≡ b.header.raw) → alike raw pairs v u ≡ true
fields_alike pairs (Some a) (Some b) i v u raw both e f same =
    ap (λ r. alike r pairs v u) (same b refl ∙ ap (λ (h : Header). h.raw) (sym both.0))
    ∙ zip_at (λ v w. field_words_correspond a.header pairs v w ≡ true) a.fields b.fields i v u both.1 e f
fields_alike pairs (Some a) None i v u raw both e f same = absurd both
fields_alike pairs None q i v u raw both e f same = absurd both

sized : (image : Image) → IsShaped image → image.raws ≡ true → IsSized (outline_of image)
sized image k raws = record { low = k.end_low; high = k.end_high; size = k.size_high; count = k.count; raws = raws }

module _ (t : Tables) (roots : List ℕ) (m : Mine) (x : Theirs) (space : SpaceWords) (h : Holds space x) (loose : ∥ Loose x ∥₁) (flips : Flips roots m x) (applied : x.due ≡ []) (scanned : scan_done (its x) ≡ true)
    (follows : Follows t m.space.words space.words) (k : Knows t m.space.words space.words x) (seen : length t.olds ≡ length m.space.words) where
  abbrev old : Image
  old = image_with m.space roots

  abbrev new : Image
  new = image_with space (moved_words x roots)

  holds : Certified (image_with m.space roots) (image_with space (moved_words x roots)) (pairs_of (its x))
  holds = subst (λ image. Certified (image_with m.space roots) image (pairs_of (its x))) (sym (flips.image space h)) (flips.certified (new_links (its x)))

  nothing_due : (r : Replica) (i : ℕ) → In r x.replicas → IsDue (its x) r.object.raw r.place r.original i → ⊥
  nothing_due r i there (inl d) = ∥∥₁_elim loose (hlevel props) (λ (l : Loose x).
      let range = laid_range 1 (map placed x.replicas) (replicas_end x.replicas) (placed r) (l.belongs).laid (in_map placed r x.replicas there) in
      let end : x.scan_place ≡ new_end (its x) = eqb-true x.scan_place (new_end (its x)) scanned in
      ⊎_elim (λ (less : x.scan_place < r.place). (let z = range.1 in omega arith)) (λ z. (let e = z.0 in let y = range.1 in omega arith)) d.1)
  nothing_due r i there (inr (zero, d)) = subst (In {X = ℕ × ℕ} (r.original, i)) applied d
  nothing_due r i there (inr (suc n, d)) = d

  same_raw : (b c : Block) → Some b ≡ Some c → b.header.raw ≡ c.header.raw
  same_raw b c e = let one : b ≡ c = cc e in ap (λ (z : Block). z.header.raw) one

  nothing_differs : (r : Replica) (i : ℕ) → In r x.replicas → i < length r.object.fields → IsSeenToDiffer m.space.words space.words x r i → ⊥
  nothing_differs r i there low d =
      let b = in_memory x space h loose r there in
      let whole = (follows k.found).1 in
      let ok = subst (λ ws. Rattle.std.specs.Prelude.IsOk (Rattle.gc_words.specs.Image.walk_words ws)) (all_of (length m.space.words) m.space.words refl) whole.space.walked in
      let one = field_read m.space.words r.original i ok (original_there t m.space.words space x h loose follows k r there i low) in
      let other = field_read space.words r.place i (h.shaped).walked (field_within space.words r.place i b.0.header (h.shaped).walked (ap header_of b.1) (let n = b.3 in omega arith)) in
      let both : BlocksCorrespond (pairs_of (its x)) (block_at m.space.words r.original) (block_at space.words r.place)
      = of_all (λ (p : ℕ × ℕ). BlocksCorrespond (pairs_of (its x)) (block_at m.space.words p.0) (block_at space.words p.1)) (pairs_of (its x)) (r.original, r.place) holds.objects (in_map pair r x.replicas there) in
      let same = fields_alike (pairs_of (its x)) (block_at m.space.words r.original) (block_at space.words r.place) i (slice_index m.space.words (field_place r.original i)) (slice_index space.words (field_place r.place i)) r.object.raw both one.word other.word
      (λ c e. b.2 ∙ same_raw b.0 c (sym b.1 ∙ e)) in
      let no : true ≡ false = sym same ∙ d.differs in cc

  none : (place : ℕ) → is_due_at (watch_of t) place ≡ false
  none place = ⊎_elim
      (λ yes. let l = k.due place yes in absurd (⊎_elim (λ d. nothing_due l.replica l.field l.there d) (λ d. nothing_differs l.replica l.field l.there l.has_field d) l.why))
      (λ no. no)
      (cases_Bool (is_due_at (watch_of t) place))

  pub accepts_ready : Accepts t (outline_of (image_with m.space roots)) (outline_of (image_with space (moved_words x roots)))
  accepts_ready = record {
    seen = record {
      found = k.found;
      none_due = (follows k.found).0.agree.counted ∙ all_done (watch_of t) none;
      old_seen = seen;
      new_seen = (follows k.found).2;
      old_sized = sized old holds.old_shaped refl;
      new_sized = sized new holds.new_shaped refl;
    };
    roots = subst (λ pairs. AllZip (λ v w. words_correspond pairs v w ≡ true) roots (moved_words x roots)) (sym k.pairs) holds.roots;
  }
