-- A run of scans, of which a standing checker is told afterwards: of all its replicas first, and then of the scanned fields.
-- For the theorem that the monitor is never lost.
use Rattle.std.proofs.lemmas.Grind.{common_steps}
use Rattle.std.proofs.Common.{◌≡◌, ◌⊎◌, inl, inr, ⊎_elim, ℕ, zero, suc, ◌+◌, ◌<◌, ◌≤◌, ◌==◌, nat_lt, Bool, true, false, cond, List, [], ◌∷◌, ◌++◌, map, length, take, drop, Option, Some, None, is_some, refl, ap, sym, ◌∙◌, subst, arith}
use Rattle.std.specs.Prelude.{slice_index}
use Rattle.std.specs.Option.{option_map}
use Rattle.std.proofs.lemmas.Bool.{cases_Bool, eqb-true}
use Rattle.gc_graph.specs.Graph.{Value, Nil, Num, Ref, Object, Graph, lookup, field_of}
use Rattle.gc_words.specs.Word.{read_header, header_word}
use Rattle.gc_words.specs.Layout.{fields_place, link_place}
use Rattle.gc_words.specs.declared.header.Header.{Header}
use Rattle.gc_model.specs.State.{Replica, Collection, State, new_end, new_free, replica_of, moved}
use Rattle.gc_model.specs.Steps.{scan, fresh_replica, place_replica, with_replica, with_written, write_replica, bring_value, bring_up_to_date}
use Rattle.gc_model.specs.Linked.{object_header, field_word}
use Rattle.gc_model.specs.Members.{In}
use Rattle.gc_model.specs.Belonging.{IsOpened, IsSpaceGraph}
use Rattle.gc_model.specs.declared.step.StepReply.TheVariants.{Scanned}
use Rattle.gc_model.proofs.Public.{find_some, in_left, in_map, pair, same_original, with_written_pair, with_written_length}
use Rattle.gc_copy.proofs.Public.{all_opened, does, having, opened_once, scanned_on, scanned_once, Moves}
use Rattle.gc_monitor.specs.Claims.{CanPlaceNext, OwesNone}
use Rattle.gc_monitor.specs.Events.{IsClaim, IsCopy, Placed}
use Rattle.gc_monitor.specs.Runs.{PlacedRun, PlacedAll, CanPlaceAll}
use Rattle.gc_monitor.specs.Tables.{Tables}
use Rattle.gc_collected.specs.Internal.Beside.{heap_words, replica_words}
use Rattle.gc_collected.proofs.Monitor.Agree.{replicas_shown}
use Rattle.gc_collected.proofs.Monitor.Behind.{IsBehind, still_true, still_behind, passes}
use Rattle.gc_collected.proofs.Monitor.Brought.{FieldScanned, field_was_scanned}
use Rattle.gc_collected.proofs.Monitor.Growth.{Adds, IsAdded, HasSame, adds_brought, adds_alike}
use Rattle.gc_collected.proofs.Monitor.Shown.{Shows}

-- ---- replicas last

-- the same pair and header; a raw one is the same
abbrev pub Alike : Replica → Replica → Type 0
Alike q r = (pair r ≡ pair q) × ((object_header r.object ≡ object_header q.object) × (q.object.raw ≡ true → r.object ≡ q.object))

abbrev pub Lasts : Collection → Collection → Type 0
Lasts c d = (new_end c ≤ new_end d) × ((q : Replica) → In q c.replicas → (r : Replica) × (In r d.replicas × Alike q r))

lasts_same : (c d : Collection) → d ≡ c → Lasts c d
lasts_same c d e = subst (Lasts c) (sym e) (omega arith, λ q l. (q, (l, (refl, (refl, λ raw. refl)))))

lasts_on : (c d e : Collection) → Lasts c d → Lasts d e → Lasts c e
lasts_on c d e x y = (
  (let a : new_end c ≤ new_end d = x.0 in let b : new_end d ≤ new_end e = y.0 in omega arith),
  λ q l.
      let r = x.1 q l in
      let z = y.1 r.0 r.1.0 in
      (z.0, (z.1.0, (z.1.1.0 ∙ r.1.1.0, (z.1.1.1.0 ∙ r.1.1.1.0, λ raw. z.1.1.1.1 (ap (λ (o : Object). o.raw) (r.1.1.1.1 raw) ∙ raw) ∙ r.1.1.1.1 raw)))),
)

stays_there : (c d : Collection) (g : Graph) (v : Value) → with_replica c g v ≡ Some d → (q : Replica) → In q c.replicas → In q d.replicas
stays_there c d g Nil is q l = subst (λ (x : Collection). In q x.replicas) (let e : c ≡ d = cc is in e) l
stays_there c d g (Num n) is q l = subst (λ (x : Collection). In q x.replicas) (let e : c ≡ d = cc is in e) l
stays_there c d g (Ref a) is q l = go (is_some (replica_of c a)) is
  where
    put : (o : Object) (b : Bool) → cond b None (Some (record c { replicas = c.replicas ++ fresh_replica a (new_end c) o ∷ [] })) ≡ Some d → In q d.replicas
    put o true k = absurd (let no : None ≡ Some d = k in cc)
    put o false k = subst (λ (x : Collection). In q x.replicas) (let e : record c { replicas = c.replicas ++ fresh_replica a (new_end c) o ∷ [] } ≡ d = cc k in e) (in_left q c.replicas (fresh_replica a (new_end c) o ∷ []) l)

    at : (o : Option Object) → place_replica c a o ≡ Some d → In q d.replicas
    at None k = absurd (let no : None ≡ Some d = k in cc)
    at (Some o) k = put o (nat_lt (new_free c) (length o.fields + 2)) k

    go : (b : Bool) → cond b (Some c) (place_replica c a (lookup g.objects a)) ≡ Some d → In q d.replicas
    go true k = subst (λ (x : Collection). In q x.replicas) (let e : c ≡ d = cc k in e) l
    go false k = at (lookup g.objects a) k

written_alike : (name i : ℕ) (w : Value) (q : Replica) → (q.original ≡ name → q.object.raw ≡ false) → Alike q (with_written name i w q)
written_alike name i w q plain = (
  with_written_pair name i w q,
  (grind (arith, common_steps, cases_Bool, with_written_length), λ raw. grind (arith, common_steps, cases_Bool, eqb-true)),
)

brought_lasts : (c mid : Collection) (g : Graph) (name i : ℕ) → bring_up_to_date c g name i ≡ Some mid → ((q : Replica) → In q c.replicas → q.original ≡ name → q.object.raw ≡ false)
    → (q : Replica) → In q c.replicas → (r : Replica) × (In r mid.replicas × Alike q r)
brought_lasts c mid g name i is plain q l = go (field_of (lookup g.objects name) i) is
  where
    at : (v : Value) (e : Option Collection) → with_replica c g v ≡ e → option_map (λ (d : Collection). write_replica d name i (moved d v)) e ≡ Some mid → (r : Replica) × (In r mid.replicas × Alike q r)
    at v None r k = absurd (let no : None ≡ Some mid = k in cc)
    at v (Some e) r k =
        let s : write_replica e name i (moved e v) ≡ mid = cc k in (
          with_written name i (moved e v) q,
          (
            subst (λ (x : Collection). In (with_written name i (moved e v) q) x.replicas) s (in_map (with_written name i (moved e v)) q e.replicas (stays_there c e g v r q l)),
            written_alike name i (moved e v) q (plain q l),
          ),
        )

    go : (f : Option Value) → bring_value c g name i f ≡ Some mid → (r : Replica) × (In r mid.replicas × Alike q r)
    go None k = (q, (subst (λ (x : Collection). In q x.replicas) (let e : c ≡ mid = cc k in e) l, (refl, (refl, λ raw. refl))))
    go (Some v) k = at v (with_replica c g v) refl k

scanned_lasts : (s : State) (c next : Collection) → IsOpened s c → scan (having s c) c ≡ (Scanned, having s next) → Lasts c next
scanned_lasts s c next opened said =
    let field = field_was_scanned (having s c) (having s next) c next said refl in
    let there = find_some (λ (r : Replica). r.place == c.scan_place) c.replicas field.replica field.found in
    let adds : Adds c next = adds_alike c field.mid next (sym (ap (λ (x : Collection). x.replicas) field.is)) (adds_brought c field.mid s.heap.graph field.replica.original c.scan_field field.brought) in (
      ⊎_elim (λ (h : HasSame c next). (let e : new_end next ≡ new_end c = h.end in omega arith)) (λ (h : (r : Replica) × IsAdded c next r). (let e : new_end next ≡ new_end c + (length h.0.object.fields + 2) = h.1.end in omega arith)) adds,
      λ q l.
          let r = brought_lasts c field.mid s.heap.graph field.replica.original c.scan_field field.brought
          (λ x k same. ap (λ (r : Replica). r.object.raw) (same_original c.replicas x field.replica opened.belongs.once k there.0 same) ∙ field.plain) q l in
          (r.0, (subst (λ (x : Collection). In r.0 x.replicas) field.is r.1.0, r.1.1)),
    )

pub once_lasts : (s : State) (c : Collection) → IsOpened s c → Lasts c (scanned_once s c)
once_lasts s c opened = go (does s c).1
  where
    go : Moves s c (scanned_once s c) (scan (having s c) c) → Lasts c (scanned_once s c)
    go (inl said) = scanned_lasts s c (scanned_once s c) opened said
    go (inr (inl said)) =
        let passed = Rattle.gc_collected.proofs.Monitor.Brought.replica_was_passed (having s c) (having s (scanned_once s c)) c (scanned_once s c) said refl in
        subst (Lasts c) passed.is (omega arith, λ q l. (q, (l, (refl, (refl, λ raw. refl)))))
    go (inr (inr same)) = lasts_same c (scanned_once s c) same

all_last : (s : State) (n : ℕ) (c : Collection) → IsOpened s c → Lasts c (scanned_on s n c)
all_last s zero c opened = lasts_same c c refl
all_last s (suc n) c opened = lasts_on c (scanned_once s c) (scanned_on s n (scanned_once s c)) (once_lasts s c opened) (all_last s n (scanned_once s c) (opened_once s c opened))

-- ---- what a checker is told of the next replica is the same in the words of both

-- an object with this header lies at this place of both, with the same link; if it is raw, with the same fields
record SameAt (W V : List ℕ) (e : ℕ) (h : Header) : Type 0 where
  pub is : read_header (slice_index W e) ≡ Some h
  pub word : slice_index W e ≡ slice_index V e
  pub link : slice_index W (link_place e) ≡ slice_index V (link_place e)
  pub fits : e + (h.len + 2) ≤ length V
  pub raws : h.raw ≡ true → take h.len (drop (fields_place e) W) ≡ take h.len (drop (fields_place e) V)

same_claim : (old W V : List ℕ) (t : Tables) (h k : Header) (a : ℕ) → SameAt W V (length t.news) h → IsClaim old W t k a → IsClaim old V t k a
same_claim old W V t h k a same claim =
    let one : h ≡ k = (let e : Some h ≡ Some k = sym same.is ∙ claim.next.header in cc) in
    let len : h.len ≡ k.len = ap (λ (h : Header). h.len) one in
    let fits : length t.news + (h.len + 2) ≤ length V = same.fits in
    record {
      next = record { header = ap read_header (sym same.word) ∙ claim.next.header; within = omega arith; bound = claim.next.bound };
      rows = claim.rows;
      link = sym same.link ∙ claim.link;
      low = claim.low;
      within = claim.within;
      start = claim.start;
      header = claim.header ∙ same.word;
    }

same_copy : (old W V : List ℕ) (t : Tables) (h k : Header) (a : ℕ) → SameAt W V (length t.news) h → IsClaim old W t k a → IsCopy old W k a (length t.news) → IsCopy old V k a (length t.news)
same_copy old W V t h k a same claim copy =
    let one : h ≡ k = (let e : Some h ≡ Some k = sym same.is ∙ claim.next.header in cc) in
    record {
      raw = copy.raw;
      fields = copy.fields ∙ subst (λ (h : Header). h.raw ≡ true → take h.len (drop (fields_place (length t.news)) W) ≡ take h.len (drop (fields_place (length t.news)) V)) one same.raws copy.raw;
    }

shown_alike : (W V : List ℕ) (q r : Replica) (link : ℕ) → Shows W q.original q.place q.object → Shows V r.original r.place r.object → Alike q r → SameAt W V q.place (object_header q.object)
shown_alike W V q r link x y alike =
    let place : r.place ≡ q.place = ap (λ (p : ℕ × ℕ). p.1) alike.0 in
    let header : object_header r.object ≡ object_header q.object = alike.1.0 in
    let len : length r.object.fields ≡ length q.object.fields = ap (λ (h : Header). h.len) header in
    let fits : r.place + (length r.object.fields + 2) ≤ length V = y.fits in
    record {
      is = x.header;
      word = x.word ∙ (ap header_word (sym header) ∙ (sym y.word ∙ ap (slice_index V) place));
      link = x.link_is ∙ (sym (ap (λ (p : ℕ × ℕ). p.0) alike.0) ∙ (sym y.link_is ∙ ap (λ n. slice_index V (link_place n)) place));
      fits = omega arith;
      raws = λ raw.
          let object = alike.1.1 raw in
          x.fields
          ∙ (sym (ap (λ (o : Object). map (field_word (object_header o)) o.fields) object)
          ∙ (sym y.fields ∙ (λ i. take (len i) (drop (fields_place (place i)) V))));
    }

same_back : (W V : List ℕ) (e : ℕ) (h : Header) → e + (h.len + 2) ≤ length W → SameAt W V e h → SameAt V W e h
same_back W V e h fits s = record { is = ap read_header (sym s.word) ∙ s.is; word = sym s.word; link = sym s.link; fits = fits; raws = λ raw. sym (s.raws raw) }

-- so it is told the same, if there is such an object
told_alike : (old W V : List ℕ) (t mid : Tables) (h : Header) → SameAt V W (length t.news) h → length t.news < length V → length t.news < length W → Placed old V t mid → Placed old W t mid
told_alike old W V t mid h same more here placed = record {
  at_end = λ past. absurd (omega arith);
  more = λ less.
      let m = placed.more more in
      (m.0, m.1, same_claim old V W t h m.0 m.1 same m.2, ⊎_elim (λ due. inl due) (λ copy. inr (same_copy old V W t h m.0 m.1 same m.2 copy.0, copy.1)) m.3);
}

owes_alike : (old W V : List ℕ) (t mid : Tables) (h : Header) → SameAt W V (length t.news) h → OwesNone old V t mid → OwesNone old W t mid
owes_alike old W V t mid h same owes k a claim copy within = owes k a (same_claim old W V t h k a same claim) (same_copy old W V t h k a same claim copy) within

can_alike : (old W V : List ℕ) (t : Tables) (h : Header) → SameAt W V (length t.news) h → length t.news < length W → CanPlaceNext old W t → CanPlaceNext old V t
can_alike old W V t h same less can more =
    let c = can less in
    (c.0, c.1, same_claim old W V t h c.0 c.1 same c.2, c.3, c.4)

-- ---- the replicas of a run

restated : (s : State) (c x : Collection) (p f : ℕ) (t : Tables) → IsBehind s x p f t → IsBehind (having s c) x p f t
restated s c x p f t b = record {
  place = b.place;
  earlier = b.earlier;
  fits = b.fits;
  each = b.each;
  knows = record { agree = b.knows.agree; due = b.knows.due; marks = b.knows.marks; old_room = b.knows.old_room; new_room = b.knows.new_room };
}

as_before : (s : State) (c x : Collection) (p f : ℕ) (t : Tables) → IsBehind (having s c) x p f t → IsBehind s x p f t
as_before s c x p f t b = record {
  place = b.place;
  earlier = b.earlier;
  fits = b.fits;
  each = b.each;
  knows = record { agree = b.knows.agree; due = b.knows.due; marks = b.knows.marks; old_room = b.knows.old_room; new_room = b.knows.new_room };
}

at_end_same : (old W : List ℕ) (m : ℕ) (t mid : Tables) → length W ≤ length t.news → PlacedRun old W m t mid → mid ≡ t
at_end_same old W zero t mid past run = run
at_end_same old W (suc m) t mid past run =
    let same : run.0 ≡ t = run.1.at_end past in
    at_end_same old W m run.0 mid (subst (λ (x : Tables). length W ≤ length x.news) (sym same) past) run.3 ∙ same

module _ (s : State) (links : ℕ → ℕ) (p f : ℕ) (heap : IsSpaceGraph s.size s.heap.free s.heap.graph) where
  -- the checker knows of all replicas of this collection, or of fewer than these words have, and the next claim is true
  abbrev pub Covers : Collection → Tables → Type 0
  Covers d mid = IsBehind s d p f mid ⊎ ((length mid.news < length (replica_words d)) × CanPlaceNext (heap_words links s) (replica_words d) mid)

  count_is : (c : Collection) → IsOpened s c → length (replica_words c) ≡ new_end c
  count_is c opened = (replicas_shown s c links heap opened).count

  none_placed : (c next : Collection) (t : Tables) → IsOpened s next → length t.news ≡ new_end c → HasSame c next → Placed (heap_words links s) (replica_words next) t t × OwesNone (heap_words links s) (replica_words next) t t
  none_placed c next t opened seen same =
      let end : new_end next ≡ new_end c = same.end in
      let count = count_is next opened in (
        record { at_end = λ past. refl; more = λ less. absurd (omega arith) },
        λ h a claim copy within. absurd (let w : length t.news + (h.len + 2) ≤ length (replica_words next) = claim.next.within in omega arith),
      )

  abbrev CoversAll : ℕ → Type 0
  CoversAll n = (c : Collection) (t : Tables) → IsOpened s c → IsBehind s c p f t → (m : ℕ) (mid : Tables) → PlacedRun (heap_words links s) (replica_words (scanned_on s n c)) m t mid → Covers (scanned_on s n c) mid

  covers_more : (n : ℕ) → CoversAll n → CoversAll (suc n)
  covers_more n rest_of c t opened b m mid run = go (does s c).1
    where
      next : Collection
      next = scanned_once s c

      last : Collection
      last = scanned_on s n next

      later : IsOpened s next
      later = opened_once s c opened

      end_opened : IsOpened s last
      end_opened = all_opened s n next later

      open_now : IsOpened (having s c) c
      open_now = record { belongs = opened.belongs; size = opened.size; logs = opened.logs }

      open_next : IsOpened (having s c) next
      open_next = record { belongs = later.belongs; size = later.size; logs = later.logs }

      seen : length t.news ≡ new_end c
      seen = b.fits.new_seen

      scanned : scan (having s c) c ≡ (Scanned, having s next) → Covers last mid
      scanned said = ⊎_elim none one adds
        where
          field : FieldScanned (having s c) c next
          field = field_was_scanned (having s c) (having s next) c next said refl

          adds : Adds c next
          adds = adds_alike c field.mid next (sym (ap (λ (x : Collection). x.replicas) field.is)) (adds_brought c field.mid s.heap.graph field.replica.original c.scan_field field.brought)

          none : HasSame c next → Covers last mid
          none same =
              let told = none_placed c next t later seen same in
              rest_of next t later (as_before s c next p f t (still_behind (having s c) (having s next) c next p f t links heap open_now open_next (restated s c c p f t b) said refl t told.0 told.1)) m mid run

          one : (q : Replica) × IsAdded c next q → Covers last mid
          one (q, added) = by m run
            where
              place : length t.news ≡ q.place
              place = seen ∙ sym added.place

              lasts : (r : Replica) × (In r last.replicas × Alike q r)
              lasts = (all_last s n next later).1 q added.there

              same_there : SameAt (replica_words next) (replica_words last) (length t.news) (object_header q.object)
              same_there = subst (λ e. SameAt (replica_words next) (replica_words last) e (object_header q.object)) (sym place)
                  (shown_alike (replica_words next) (replica_words last) q lasts.0 0 ((replicas_shown s next links heap later).each q added.there) ((replicas_shown s last links heap end_opened).each lasts.0 lasts.1.0) lasts.1.1)

              fits_next : q.place + (length q.object.fields + 2) ≤ length (replica_words next)
              fits_next = ((replicas_shown s next links heap later).each q added.there).fits

              less_next : length t.news < length (replica_words next)
              less_next = let a = fits_next in let e = place in omega arith

              less_last : length t.news < length (replica_words last)
              less_last = let a : length t.news + (length q.object.fields + 2) ≤ length (replica_words last) = same_there.fits in omega arith

              by : (m : ℕ) → PlacedRun (heap_words links s) (replica_words last) m t mid → Covers last mid
              by zero at =
                  let can = still_true (having s c) (having s next) c next p f t links heap open_now open_next (restated s c c p f t b) said refl in
                  subst (Covers last) (sym at) (inr (less_last, can_alike (heap_words links s) (replica_words next) (replica_words last) t (object_header q.object) same_there less_next can))
              by (suc m) (first, placed, owes, rest) =
                  let back = same_back (replica_words next) (replica_words last) (length t.news) (object_header q.object) (let a = fits_next in let e = place in omega arith) same_there in
                  rest_of next first later
                  (as_before s c next p f first (still_behind (having s c) (having s next) c next p f t links heap open_now open_next (restated s c c p f t b) said refl first
                  (told_alike (heap_words links s) (replica_words next) (replica_words last) t first (object_header q.object) back less_last less_next placed)
                  (owes_alike (heap_words links s) (replica_words next) (replica_words last) t first (object_header q.object) same_there owes)))
                  m mid rest

      go : Moves s c next (scan (having s c) c) → Covers last mid
      go (inl said) = scanned said
      go (inr (inl said)) = rest_of next t later (as_before s c next p f t (passes (having s c) (having s next) c next p f t open_now (restated s c c p f t b) said refl)) m mid run
      go (inr (inr same)) = rest_of next t later (subst (λ (x : Collection). IsBehind s x p f t) (sym same) b) m mid run

  covers : (n : ℕ) (c : Collection) (t : Tables) → IsOpened s c → IsBehind s c p f t → (m : ℕ) (mid : Tables) → PlacedRun (heap_words links s) (replica_words (scanned_on s n c)) m t mid → Covers (scanned_on s n c) mid
  covers zero c t opened b m mid run =
      let seen : length t.news ≡ new_end c = b.fits.new_seen in
      let count = count_is c opened in
      inl (subst (IsBehind s c p f) (sym (at_end_same (heap_words links s) (replica_words c) m t mid (omega arith) run)) b)
  covers (suc n) c t opened b m mid run = covers_more n (covers n) c t opened b m mid run

  -- all claims of the run are true
  pub can_place_all : (n : ℕ) (c : Collection) (t : Tables) → IsOpened s c → IsBehind s c p f t → CanPlaceAll (heap_words links s) (replica_words (scanned_on s n c)) t
  can_place_all n c t opened b m mid run less = ⊎_elim
      (λ (k : IsBehind s (scanned_on s n c) p f mid). absurd (let seen : length mid.news ≡ new_end (scanned_on s n c) = k.fits.new_seen in let count = count_is (scanned_on s n c) (all_opened s n c opened) in omega arith))
      (λ can. can.1 less)
      (covers n c t opened b m mid run)

  -- and then the checker knows of all replicas
  pub knows_all : (n : ℕ) (c : Collection) (t mid : Tables) → IsOpened s c → IsBehind s c p f t → PlacedAll (heap_words links s) (replica_words (scanned_on s n c)) t mid → IsBehind s (scanned_on s n c) p f mid
  knows_all n c t mid opened b all = ⊎_elim
      (λ k. k)
      (λ can. absurd (let less = can.0 in let past : length (replica_words (scanned_on s n c)) ≤ length mid.news = all.2 in omega arith))
      (covers n c t opened b all.0 mid all.1)
