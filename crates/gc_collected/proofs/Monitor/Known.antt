-- The tables of a standing checker know the collection after a step: a replica more, and a field compared.
-- For the theorem that the monitor is never lost.
use Rattle.std.proofs.lemmas.Grind.{common_steps}
use Rattle.std.proofs.Common.{◌≡◌, ◌≢◌, ◌⊎◌, inl, inr, ⊎_elim, ℕ, suc, ◌+◌, ◌-◌, ◌<◌, ◌≤◌, ◌==◌, Bool, true, false, List, ◌++◌, map, length, get_or, set, replicate, Some, refl, ap, sym, ◌∙◌, subst, arith}
use Rattle.std.specs.Prelude.{slice_get, slice_index}
use Rattle.std.proofs.lemmas.Bool.{cases_Bool, cases_eq, eqb-true, eq-eqb}
use Rattle.std.proofs.Math.Seq.{get_or-append_right}
use Rattle.std.proofs.lemmas.List.{get_or_append_left, get_or-set_same, get_or-set_other, length-map}
use Rattle.gc_graph.specs.Graph.{Object, lookup}
use Rattle.gc_words.specs.Word.{field_words_correspond}
use Rattle.gc_words.specs.Layout.{field_place}
use Rattle.gc_words.specs.declared.header.Header.{Header}
use Rattle.gc_model.specs.State.{Replica, Collection, State, heap_end, new_end, pairs_of}
use Rattle.gc_model.specs.Linked.{object_header}
use Rattle.gc_model.specs.Members.{In}
use Rattle.gc_model.specs.Belonging.{IsDue, IsSpaceGraph, IsOpened}
use Rattle.gc_model.proofs.Public.{laid_apart, in_map, in_map_from, in_push, get_within, pair, placed, due_at_end}
use Rattle.gc_monitor.specs.Claims.{OwesNone}
use Rattle.gc_monitor.specs.Events.{code_of, object_codes, with_due, replica_added, Placed, Looked}
use Rattle.gc_monitor.specs.Tables.{Tables, RowsAgree, watch_of, due_in}
use Rattle.gc_monitor.specs.Telling.{IsMark}
use Rattle.gc_monitor.specs.Watch.{is_due, is_due_at}
use Rattle.gc_monitor.proofs.Public.{agree_replica, agree_due, due_at, in_front, within_row}
use Rattle.gc_collected.specs.Internal.Beside.{heap_words, replica_words}
use Rattle.gc_collected.specs.Internal.Knows.{IsDueField, Knows, Marks}
use Rattle.gc_collected.specs.Internal.Stays.{WatchFits}
use Rattle.gc_collected.proofs.Monitor.Agree.{replicas_shown, words_agree}
use Rattle.gc_collected.proofs.Monitor.Beside.{pair_stays}
use Rattle.gc_collected.proofs.Monitor.Brought.{IsFresh}
use Rattle.gc_collected.proofs.Monitor.Claimed.{is_copy, is_at, true_claim}
use Rattle.gc_collected.proofs.Monitor.Events.{Goes}
use Rattle.gc_collected.proofs.Monitor.Growth.{IsAdded, HasSame, Adds}
use Rattle.gc_collected.proofs.Monitor.Told.{marked_at}

-- ---- codes

repeated : (n x k : ℕ) → ((get_or (replicate n x) k 0 ≡ x) × (k < n)) ⊎ (get_or (replicate n x) k 0 ≡ 0)
repeated n x k = grind (arith, common_steps)

due_codes : (n : ℕ) (due : Bool) (k : ℕ) → get_or (object_codes n (code_of due)) k 0 ≡ 3 → (due ≡ true) × (j : ℕ) × (k ≡ suc (suc j)) × (j < n)
due_codes n due k e = grind (arith, common_steps, repeated)

no_two : (n : ℕ) (due : Bool) (k : ℕ) → get_or (object_codes n (code_of due)) k 0 ≢ 2
no_two n due k e = grind (arith, common_steps, repeated)

-- only the first word of an object has the mark of a start
one_first : (n : ℕ) (due : Bool) (k : ℕ) → get_or (object_codes n (code_of due)) k 0 ≡ 1 → k ≡ 0
one_first n due k e = grind (arith, common_steps, repeated)

-- ---- a replica more, or none

-- what tables know of a collection, where fields are due in another sense
pub record KnowsBy (Due : Bool → ℕ → ℕ → ℕ → Type 0) (s : State) (c : Collection) (t : Tables) : Type 0 where
  pub agree : RowsAgree t
  pub due : (place : ℕ) → is_due_at (watch_of t) place ≡ true → IsDueField Due c.replicas place
  pub marks : Marks s.heap.graph.objects c.replicas t

module _ (s : State) (c next : Collection) (t : Tables) (links : ℕ → ℕ) (heap : IsSpaceGraph s.size s.heap.free s.heap.graph) (before : IsOpened s c) (opened : IsOpened s next) (goes : Goes s c (watch_of t)) (knows : Knows s c t)
    (adds : Adds c next) (fresh : (q : Replica) → In q next.replicas → q.place ≡ new_end c → IsFresh s.heap.graph.objects c q) where
  -- a replica is there later
  record IsKin (r p : Replica) : Type 0 where
    original : p.original ≡ r.original
    place : p.place ≡ r.place
    raw : p.object.raw ≡ r.object.raw
    len : length p.object.fields ≡ length r.object.fields

  kin : (r : Replica) → In r c.replicas → (p : Replica) × In p next.replicas × IsKin r p
  kin r l =
      let p = pair_stays c next r adds l in
      let x = before.belongs.replicas r l in
      let y = opened.belongs.replicas p.0 p.1 in
      let name : p.0.original ≡ r.original = ap (λ (p : ℕ × ℕ). p.0) p.2 in
      let same : y.original ≡ x.original = (let e : Some y.original ≡ Some x.original = sym y.found ∙ (ap (lookup s.heap.graph.objects) name ∙ x.found) in cc) in (
        p.0,
        p.1,
        record {
          original = name;
          place = ap (λ (p : ℕ × ℕ). p.1) p.2;
          raw = y.raw ∙ (ap (λ (o : Object). o.raw) same ∙ sym x.raw);
          len = y.len ∙ (ap (λ (o : Object). length o.fields) same ∙ sym x.len);
        },
      )

  old_field : (place : ℕ) → IsDueField (IsDue c) c.replicas place → IsDueField (IsDue c) next.replicas place
  old_field place h = grind (arith, common_steps, kin)

  old_taken : (a : ℕ) → get_or t.olds a 0 ≡ 2 → (r : Replica) × In r next.replicas × (r.original ≡ a)
  old_taken a e = let r = knows.marks.taken a e in let k = kin r.0 r.1 in (k.0, k.1, k.2.original ∙ r.2)

  old_places : (b : ℕ) → get_or t.news b 0 ≡ 1 → (r : Replica) × In r next.replicas × (r.place ≡ b)
  old_places b e = let r = knows.marks.places b e in let k = kin r.0 r.1 in (k.0, k.1, k.2.place ∙ r.2)

  none_more : HasSame c next → KnowsBy (IsDue c) s next t
  none_more h = record {
    agree = knows.agree;
    due = λ place d. old_field place (knows.due place d);
    marks = record {
      olds = knows.marks.olds;
      starts = knows.marks.starts;
      taken = old_taken;
      news = λ r l.
          let p = in_map_from pair (pair r) c.replicas (subst (In (pair r)) h.pairs (in_map pair r next.replicas l)) in
          subst (λ n. get_or t.news n 0 ≡ 1) (ap (λ (p : ℕ × ℕ). p.1) p.2) (knows.marks.news p.0 p.1);
      places = old_places;
      free = knows.marks.free;
    };
  }

  module _ (q : Replica) (added : IsAdded c next q) (due : Bool) (plain : due ≡ true → q.object.raw ≡ false) where
    abbrev h : Header
    h = object_header q.object

    abbrev codes : List ℕ
    codes = object_codes h.len (code_of due)

    seen : length t.news ≡ new_end c
    seen = goes.fits.new_seen

    place_is : length t.news ≡ q.place
    place_is = seen ∙ sym added.place

    start : get_or t.olds q.original 0 ≡ 1
    start = (true_claim s c next t links heap before opened goes knows q added).start

    one_more : KnowsBy (IsDue c) s next (replica_added t h q.original due)
    one_more = record {
      agree = agree_replica t h q.original due (true_claim s c next t links heap before opened goes knows q added).next.bound start knows.agree;
      due = λ place d.
          let three : get_or (t.news ++ codes) place 0 ≡ 3 = eqb-true (get_or (t.news ++ codes) place 0) 3 (sym (due_at (t.news ++ codes) place) ∙ d) in
          elim (cases_Bool (Rattle.std.proofs.Common.nat_lt place (length t.news))) [
            | inl y ↦ (let l : place < length t.news = Rattle.std.proofs.lemmas.Bool.ltb-true place (length t.news) y in
                old_field place (knows.due place (due_at t.news place ∙ eq-eqb (get_or t.news place 0) 3 (sym (get_or_append_left t.news codes 0 place l) ∙ three))))
            | inr n ↦ (let l : length t.news ≤ place = Rattle.std.proofs.lemmas.Bool.ltb-false place (length t.news) n in
                let new = due_codes h.len due (place - length t.news) (sym (get_or-append_right t.news codes place 0 l) ∙ three) in
                let j = new.1 in
                let k : place - length t.news ≡ suc (suc j) = new.2 in
                let p : length t.news ≡ q.place = place_is in (
                  q,
                  added.there,
                  j,
                  new.3,
                  omega arith,
                  subst (λ raw. IsDue c raw q.place q.original j) (sym (plain new.0)) (subst (λ n. IsDue c false n q.original j) (sym added.place) (due_at_end s.heap.graph.objects c before.belongs q.original j)),
                ))
          ];
      marks = record {
        olds = λ a named. elim (cases_eq a q.original) [
          | inl same ↦ inr (ap (λ n. get_or (set t.olds q.original 2) n 0) same ∙ get_or-set_same t.olds q.original 2 0 (within_row t.olds q.original 0 start))
          | inr other ↦ subst IsMark (sym (get_or-set_other t.olds q.original a 2 0 other)) (knows.marks.olds a named)
        ];
        starts = λ a mark. elim (cases_eq a q.original) [
          | inl same ↦ knows.marks.starts a (inl (ap (λ n. get_or t.olds n 0) same ∙ start))
          | inr other ↦ knows.marks.starts a (subst IsMark (get_or-set_other t.olds q.original a 2 0 other) mark)
        ];
        taken = λ a e. elim (cases_eq a q.original) [
          | inl same ↦ (q, added.there, sym same)
          | inr other ↦ old_taken a (sym (get_or-set_other t.olds q.original a 2 0 other) ∙ e)
        ];
        news = λ r l. ⊎_elim
            (λ old. (let p = in_map_from pair (pair r) c.replicas old in
            subst (λ n. get_or (t.news ++ codes) n 0 ≡ 1) (ap (λ (p : ℕ × ℕ). p.1) p.2) (in_front t.news codes p.0.place 0 (knows.marks.news p.0 p.1))))
            (λ is. (let at : length t.news ≡ r.place = seen ∙ ap (λ (p : ℕ × ℕ). p.1) is in
            let none : r.place - length t.news ≡ 0 = omega arith in
            get_or-append_right t.news codes r.place 0 (omega arith) ∙ ap (λ n. get_or codes n 0) none))
            (in_push (pair r) (q.original, new_end c) (map pair c.replicas) (subst (In (pair r)) added.pairs (in_map pair r next.replicas l)));
        places = λ b e. elim (cases_Bool (Rattle.std.proofs.Common.nat_lt b (length t.news))) [
          | inl y ↦ old_places b (sym (get_or_append_left t.news codes 0 b (Rattle.std.proofs.lemmas.Bool.ltb-true b (length t.news) y)) ∙ e)
          | inr n ↦ (let l : length t.news ≤ b = Rattle.std.proofs.lemmas.Bool.ltb-false b (length t.news) n in
              let first : b - length t.news ≡ 0 = one_first h.len due (b - length t.news) (sym (get_or-append_right t.news codes b 0 l) ∙ e) in
              let p : length t.news ≡ q.place = place_is in (q, added.there, omega arith))
        ];
        free = λ b e. elim (cases_Bool (Rattle.std.proofs.Common.nat_lt b (length t.news))) [
          | inl y ↦ knows.marks.free b (sym (get_or_append_left t.news codes 0 b (Rattle.std.proofs.lemmas.Bool.ltb-true b (length t.news) y)) ∙ e)
          | inr n ↦ no_two h.len due (b - length t.news) (sym (get_or-append_right t.news codes b 0 (Rattle.std.proofs.lemmas.Bool.ltb-false b (length t.news) n)) ∙ e)
        ];
      };
    }

  -- after a walk over the new space
  pub placed_known : (mid : Tables) → Placed (heap_words links s) (replica_words next) t mid → OwesNone (heap_words links s) (replica_words next) t mid → KnowsBy (IsDue c) s next mid × (mid.room ≡ t.room)
  placed_known mid is owes = go adds
    where
      at : (q : Replica) (added : IsAdded c next q) (raw : Bool) → q.object.raw ≡ raw → KnowsBy (IsDue c) s next mid × (mid.room ≡ t.room)
      at q added true raw =
          let one = fresh q added.there added.place in
          let ok = opened.belongs.replicas q added.there in
          let same : q.object ≡ ok.original = (let e : Some q.object ≡ Some ok.original = sym (one.same raw) ∙ ok.found in cc) in
          let claim = true_claim s c next t links heap before opened goes knows q added in
          let a = is_at s next links heap opened q added.there in
          let within : q.original + (length q.object.fields + 2) ≤ length (heap_words links s) = a.within in
          let after = owes (object_header q.object) q.original claim (is_copy s c next t links heap before opened goes knows q added raw same) (omega arith) in
          subst (λ (x : Tables). KnowsBy (IsDue c) s next x × (x.room ≡ t.room)) (sym after) (one_more q added false (λ no. absurd (let n : false ≡ true = no in cc)), refl)
      at q added false raw =
          let claim = true_claim s c next t links heap before opened goes knows q added in
          let within : length t.news + (length q.object.fields + 2) ≤ length (replica_words next) = claim.next.within in
          let m = is.more (omega arith) in
          let header : m.0 ≡ object_header q.object = (let e : Some m.0 ≡ Some (object_header q.object) = sym m.2.next.header ∙ claim.next.header in cc) in
          let original : m.1 ≡ q.original = sym m.2.link ∙ claim.link in
          ⊎_elim
          (λ e. subst (λ (x : Tables). KnowsBy (IsDue c) s next x × (x.room ≡ t.room)) (sym (e ∙ (λ i. replica_added t (header i) (original i) true))) (one_more q added true (λ y. raw), refl))
          (λ e. absurd (let no : true ≡ false = sym e.0.raw ∙ (ap (λ (h : Header). h.raw) header ∙ raw) in cc))
          m.3

      go : Adds c next → KnowsBy (IsDue c) s next mid × (mid.room ≡ t.room)
      go (inl h) = grind (arith, common_steps, none_more, (replicas_shown s next links heap opened).count)
      go (inr (q, added)) = at q added q.object.raw refl

-- ---- a field compared

module _ (Due : Bool → ℕ → ℕ → ℕ → Type 0) (s : State) (next : Collection) (links : ℕ → ℕ) (heap : IsSpaceGraph s.size s.heap.free s.heap.graph) (opened : IsOpened s next) (mid : Tables) (fits : WatchFits (heap_end s) next (watch_of mid)) where
  -- the field that was written corresponds, if the collector's step brings it up to date
  agrees : (q : Replica) (i : ℕ) → In q next.replicas → i < length q.object.fields → Goes s next (watch_of (with_due mid (field_place q.place i) false))
      → field_words_correspond (object_header q.object) (pairs_of next) (slice_index (heap_words links s) (field_place q.original i)) (slice_index (replica_words next) (field_place q.place i)) ≡ true
  agrees q i l small goes =
      let ok = opened.belongs.replicas q l in
      let is = goes.replicas q l in
      let same : is.original ≡ ok.original = (let e : Some is.original ≡ Some ok.original = sym is.found ∙ ok.found in cc) in
      let len : length q.object.fields ≡ length ok.original.fields = ok.len in
      let v = get_within ok.original.fields i (omega arith) in
      let w = get_within q.object.fields i small in
      let at = is_at s next links heap opened q l in
      let in_row : q.place + (length q.object.fields + 2) ≤ new_end next = at.place_within in
      let seen : length mid.news ≡ new_end next = fits.new_seen in
      let unmarked : is_due (watch_of (with_due mid (field_place q.place i) false)) q.place i ≡ false =
      ap (λ bs. get_or bs (field_place q.place i) false) (marked_at mid (field_place q.place i) false)
      ∙ get_or-set_same (due_in mid.news) (field_place q.place i) false false (omega (arith, length-map mid.news (λ code. code == 3))) in
      words_agree s next links heap opened q l i v.0 w.0 v.1 w.1 (⊎_elim
      (λ d. absurd (let no : true ≡ false = sym d ∙ unmarked in cc))
      (λ e. e)
      (is.current i v.0 w.0 (ap (λ (o : Object). slice_get o.fields i) same ∙ v.1) w.1))

  -- so a look finds that it is due no more
  pub looked_is : (after : Tables) (q : Replica) (b i : ℕ) → In q next.replicas → q.place ≡ b → 1 ≤ q.original → Goes s next (watch_of (with_due mid (field_place b i) false))
      → get_or mid.origins b 0 ≡ q.original → Looked (heap_words links s) (replica_words next) b i mid after → (after ≡ with_due mid (field_place b i) false) × (i < length q.object.fields)
  looked_is after q b i l place low goes origin is = grind (arith, common_steps, replicas_shown, agrees)

  -- field i of a replica is due no more
  pub looked_known : (q : Replica) (i : ℕ) → In q next.replicas → i < length q.object.fields → KnowsBy Due s next mid
      → KnowsBy (λ raw p a j. Due raw p a j × ((p ≡ q.place) × (j ≡ i) → ⊥)) s next (with_due mid (field_place q.place i) false)
  looked_known q i l small knows = record {
    agree = agree_due mid (field_place q.place i) false knows.agree;
    due = λ place d.
        let here : is_due_at (watch_of (with_due mid (field_place q.place i) false)) place ≡ get_or (set (due_in mid.news) (field_place q.place i) false) place false = ap (λ bs. get_or bs place false) (marked_at mid (field_place q.place i) false) in
        elim (cases_eq place (field_place q.place i)) [
          | inl same ↦ absurd (let no : false ≡ true = sym (ap (λ n. get_or (set (due_in mid.news) (field_place q.place i) false) n false) same ∙ get_or-set_same (due_in mid.news) (field_place q.place i) false false (omega (arith, in_row, length-map mid.news (λ code. code == 3)))) ∙ (sym here ∙ d) in cc)
          | inr other ↦ (let f = knows.due place (sym (get_or-set_other (due_in mid.news) (field_place q.place i) place false false other) ∙ (sym here ∙ d)) in
              (f.0, f.1, f.2, f.3, f.4, (f.5, λ x. other (f.4 ∙ (λ j. field_place (x.0 j) (x.1 j))))))
        ];
    marks = record {
      olds = knows.marks.olds;
      starts = knows.marks.starts;
      taken = knows.marks.taken;
      news = λ r k. get_or-set_other mid.news (field_place q.place i) r.place 0 0 (apart r k) ∙ knows.marks.news r k;
      places = λ b e. elim (cases_eq b (field_place q.place i)) [
        | inl same ↦ absurd (let no : 0 ≡ 1 = sym (ap (λ n. get_or (set mid.news (field_place q.place i) 0) n 0) same ∙ get_or-set_same mid.news (field_place q.place i) 0 0 in_row) ∙ e in omega arith)
        | inr other ↦ knows.marks.places b (sym (get_or-set_other mid.news (field_place q.place i) b 0 0 other) ∙ e)
      ];
      free = λ b e. elim (cases_eq b (field_place q.place i)) [
        | inl same ↦ absurd (let no : 0 ≡ 2 = sym (ap (λ n. get_or (set mid.news (field_place q.place i) 0) n 0) same ∙ get_or-set_same mid.news (field_place q.place i) 0 0 in_row) ∙ e in omega arith)
        | inr other ↦ knows.marks.free b (sym (get_or-set_other mid.news (field_place q.place i) b 0 0 other) ∙ e)
      ];
    };
  }
    where
      in_row : field_place q.place i < length mid.news
      in_row = grind (arith, common_steps, (is_at s next links heap opened q l).place_within)

      -- no object starts at a field
      apart : (r : Replica) → In r next.replicas → r.place ≢ field_place q.place i
      apart r k e = ⊎_elim
          (λ same. (let p : r.place ≡ q.place = ap (λ (e : ℕ × Object). e.0) same in absurd (omega arith)))
          (⊎_elim (λ b. (let x : r.place + (length r.object.fields + 2) ≤ q.place = b in absurd (omega arith))) (λ a. (let x : q.place + (length q.object.fields + 2) ≤ r.place = a in absurd (omega arith))))
          (laid_apart 1 (map placed next.replicas) (new_end next) (placed r) (placed q) opened.belongs.laid (in_map placed r next.replicas k) (in_map placed q next.replicas l))
