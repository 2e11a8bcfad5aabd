-- The looks of a standing checker that was told of all replicas of a run of scans: they come to the scan pointer, and then it goes along.
-- For the theorem that the monitor is never lost.
use Rattle.std.proofs.Common.{◌≡◌, ◌≢◌, ◌⊎◌, inl, inr, ⊎_elim, ℕ, zero, suc, ◌+◌, ◌<◌, ◌≤◌, ◌==◌, Bool, true, false, ◌||◌, map, length, Some, refl, ap, sym, ◌∙◌, subst, arith}
use Rattle.std.specs.Prelude.{slice_index}
use Rattle.std.proofs.lemmas.Bool.{eqb-true, eq-eqb, or_left, or_right}
use Rattle.gc_graph.specs.Graph.{Object}
use Rattle.gc_words.specs.Word.{read_header}
use Rattle.gc_words.specs.declared.header.Header.{Header}
use Rattle.gc_model.specs.State.{Replica, Collection, State, new_end}
use Rattle.gc_model.specs.Steps.{scan}
use Rattle.gc_model.specs.Linked.{object_header}
use Rattle.gc_model.specs.Members.{In}
use Rattle.gc_model.specs.Belonging.{IsOpened, IsSpaceGraph, IsScanPlace, IsUnscanned}
use Rattle.gc_model.proofs.Public.{find_some, in_map, laid_apart, laid_range, placed, same_place}
use Rattle.gc_monitor.specs.Claims.{CanLook}
use Rattle.gc_monitor.specs.Events.{Looked}
use Rattle.gc_monitor.specs.Runs.{PlacedAll, CanPlaceAll, IsBefore, LooksAt, LooksPast, LooksOn, LookRun, LookedAll, CanGoOn, CanLookAll}
use Rattle.gc_monitor.specs.Tables.{Tables, watch_of}
use Rattle.gc_collected.specs.Internal.Beside.{heap_words, replica_words}
use Rattle.gc_collected.specs.Internal.Knows.{Knows}
use Rattle.gc_collected.proofs.Monitor.Agree.{replicas_shown}
use Rattle.gc_copy.proofs.Public.{having, scanned_once, scanned_on, Moves, does, opened_once, all_opened}
use Rattle.gc_collected.proofs.Monitor.Batched.{once_lasts, can_place_all, knows_all}
use Rattle.gc_collected.proofs.Monitor.Behind.{IsBehind, begins, caught_up, can_see, sees, goes_on}
use Rattle.gc_collected.proofs.Monitor.Brought.{FieldScanned, field_was_scanned, replica_was_passed, brings}
use Rattle.gc_collected.proofs.Monitor.Events.{Goes}

-- ---- the words at which looks go on

-- looks go forward
forward : (old W : Rattle.std.proofs.Common.List ℕ) (p e n b i : ℕ) (t : Tables) (c k : ℕ) (mid : Tables) → LookRun old W p e n b i t c k mid → (b < c) ⊎ ((b ≡ c) × (i ≤ k))
forward old W p e zero b i t c k mid (place, field, same) = inr (sym place, omega arith)
forward old W p e (suc n) b i t c k mid (d, f, before, run, (at, (h, is, alt))) = ⊎_elim
    (λ (look : LooksAt old W h d f before c k mid). (let place : c ≡ d = look.1 in let field : k ≡ suc f = look.2 in ⊎_elim (λ far. inl (omega arith)) (λ here. (let x : b ≡ d = here.0 in let y : i ≤ f = here.1 in inr (x ∙ sym place, omega arith))) (forward old W p e n b i t d f before run)))
    (λ (past : LooksPast p h d f before c k mid). (let place : c ≡ d + (h.len + 2) = past.1 in ⊎_elim (λ far. inl (omega arith)) (λ here. (let x : b ≡ d = here.0 in inl (omega arith))) (forward old W p e n b i t d f before run)))
    alt

module _ (s : State) (d : Collection) (links : ℕ → ℕ) (heap : IsSpaceGraph s.size s.heap.free s.heap.graph) (opened : IsOpened s d) where
  -- the words of both spaces
  abbrev Old : Rattle.std.proofs.Common.List ℕ
  Old = heap_words links s

  abbrev New : Rattle.std.proofs.Common.List ℕ
  New = replica_words d

  ends : (q : Replica) → In q d.replicas → q.place + (length q.object.fields + 2) ≤ new_end d
  ends q l = (laid_range 1 (map placed d.replicas) (new_end d) (placed q) opened.belongs.laid (in_map placed q d.replicas l)).1

  -- a replica before another place at which one starts ends there or before
  apart : (q r : Replica) → In q d.replicas → In r d.replicas → q.place < r.place → q.place + (length q.object.fields + 2) ≤ r.place
  apart q r l m less = ⊎_elim
      (λ e. absurd (let p : q.place ≡ r.place = ap (λ (e : ℕ × Object). e.0) e in omega arith))
      (⊎_elim (λ h. h) (λ h. absurd (let k : r.place + (length r.object.fields + 2) ≤ q.place = h in omega arith)))
      (laid_apart 1 (map placed d.replicas) (new_end d) (placed q) (placed r) opened.belongs.laid (in_map placed q d.replicas l) (in_map placed r d.replicas m))

  ends_before : (q : Replica) → In q d.replicas → q.place < d.scan_place → q.place + (length q.object.fields + 2) ≤ d.scan_place
  ends_before q l less = ⊎_elim
      (λ x. let at : x.0.place ≡ d.scan_place = x.2 in let h : q.place + (length q.object.fields + 2) ≤ x.0.place = apart q x.0 l x.1 (omega arith) in omega arith)
      (λ x. let at : d.scan_place ≡ new_end d = x.0 in let h = ends q l in omega arith)
      opened.belongs.scan

  scan_low : d.scan_place ≤ new_end d
  scan_low = ⊎_elim (λ x. let at : x.0.place ≡ d.scan_place = x.2 in let h = ends x.0 x.1 in omega arith) (λ x. let at : d.scan_place ≡ new_end d = x.0 in omega arith) opened.belongs.scan

  -- the replica at which the looks go on
  there : (b i : ℕ) → IsScanPlace b i d → IsBefore b i d.scan_place d.scan_field → (q : Replica) × (In q d.replicas × ((q.place ≡ b) × (i ≤ length q.object.fields)))
  there b i (inl x) before = (x.0, (x.1, (x.2, x.3)))
  there b i (inr x) before = absurd (
      let at : b ≡ new_end d = x.0 in
      let low = scan_low in
      ⊎_elim
      (λ far. omega arith)
      (λ here. (
      let same : b ≡ d.scan_place = here.0 in
      let less : i < d.scan_field = here.1 in
      ⊎_elim
      (λ y. (let place : y.0.place ≡ d.scan_place = y.2 in let h = ends y.0 y.1 in omega arith))
      (λ y. (let field : d.scan_field ≡ 0 = y.1 in omega arith))
      opened.belongs.scan))
      before)

  header_of : (q : Replica) (b : ℕ) (h : Header) → In q d.replicas → q.place ≡ b → read_header (slice_index New b) ≡ Some h → object_header q.object ≡ h
  header_of q b h l at is = (let e : Some (object_header q.object) ≡ Some h = sym ((replicas_shown s d links heap opened).each q l).header ∙ (ap (λ n. read_header (slice_index New n)) at ∙ is) in cc)

  not_left : (b i : ℕ) → IsBefore b i d.scan_place d.scan_field → IsUnscanned d b i → ⊥
  not_left b i before left = ⊎_elim
      (λ far. ⊎_elim (λ x. omega arith) (λ x. (let e : d.scan_place ≡ b = x.0 in omega arith)) left)
      (λ here. (let e : b ≡ d.scan_place = here.0 in let less : i < d.scan_field = here.1 in ⊎_elim (λ x. omega arith) (λ x. (let le : d.scan_field ≤ i = x.1 in omega arith)) left))
      before

  -- a look, or a replica passed
  goes : (b i : ℕ) (t : Tables) (c j : ℕ) (after : Tables) → IsBehind s d b i t → LooksOn Old New d.scan_place d.scan_field b i t c j after → IsBehind s d c j after
  goes b i t c j after behind (before, (h, is, alt)) = ⊎_elim looks past alt
    where
      q : (q : Replica) × (In q d.replicas × ((q.place ≡ b) × (i ≤ length q.object.fields)))
      q = there b i behind.place before

      at : q.0.place ≡ b
      at = q.1.1.0

      header : object_header q.0.object ≡ h
      header = header_of q.0 b h q.1.0 at is

      here : IsBehind s d q.0.place i t
      here = subst (λ n. IsBehind s d n i t) (sym at) behind

      looks : LooksAt Old New h b i t c j after → IsBehind s d c j after
      looks (plain, place, field, looked) =
          let one : object_header q.0.object ≡ looked.0 = header_of q.0 b looked.0 q.1.0 at looked.2.header in
          let len : length q.0.object.fields ≡ looked.0.len = ap (λ (h : Header). h.len) one in
          let small : i < looked.0.len = looked.2.has_field in
          let next : IsBehind s d q.0.place (suc i) after = sees s d q.0 i t links heap opened here q.1.0 (omega arith) (ap (λ (h : Header). h.raw) header ∙ plain)
          (λ left. not_left b i before (subst (λ n. IsUnscanned d n i) at left)) after (subst (λ n. Looked Old New n i t after) (sym at) looked) in
          subst (λ n. IsBehind s d n j after) (at ∙ sym place) (subst (λ n. IsBehind s d q.0.place n after) (sym field) next)

      past : LooksPast d.scan_place h b i t c j after → IsBehind s d c j after
      past (done, place, low, field, same) =
          let len : length q.0.object.fields ≡ h.len = ap (λ (h : Header). h.len) header in
          let at_is : q.0.place ≡ b = at in
          let place_is : c ≡ b + (h.len + 2) = place in
          let low_is : c ≤ d.scan_place = low in
          let passed : (q.0.object.raw || (i == length q.0.object.fields)) ≡ true = ⊎_elim
          (λ raw. or_left q.0.object.raw (i == length q.0.object.fields) (ap (λ (h : Header). h.raw) header ∙ raw))
          (λ last. or_right q.0.object.raw (i == length q.0.object.fields) (eq-eqb i (length q.0.object.fields) (last ∙ sym len)))
          done in
          let next : IsBehind s d (q.0.place + (length q.0.object.fields + 2)) 0 t = goes_on s d q.0 i t opened here q.1.0 passed (omega arith) in
          let is : q.0.place + (length q.0.object.fields + 2) ≡ c = omega arith in
          subst (IsBehind s d c j) (sym same) (subst (λ n. IsBehind s d c n t) (sym field) (subst (λ n. IsBehind s d n 0 t) is next))

  followed : (n b i : ℕ) (t : Tables) (c j : ℕ) (after : Tables) → IsBehind s d b i t → LookRun Old New d.scan_place d.scan_field n b i t c j after → IsBehind s d c j after
  followed zero b i t c j after behind (place, field, same) = subst (IsBehind s d c j) (sym same) (subst (λ n. IsBehind s d c n t) (sym field) (subst (λ n. IsBehind s d n i t) (sym place) behind))
  followed (suc n) b i t c j after behind (e, k, mid, run, on) = goes e k mid c j after (followed n b i t e k mid behind run) on

-- ---- what the looks meet

-- the scan pointer is where it was, or at a replica's start, or at a replica that is not raw
abbrev ScansPlain : ℕ → ℕ → Collection → Type 0
ScansPlain b i c = ((c.scan_place ≡ b) × (c.scan_field ≡ i)) ⊎ ((c.scan_field ≡ 0) ⊎ ((r : Replica) × (In r c.replicas × ((r.place ≡ c.scan_place) × (r.object.raw ≡ false)))))

plain_once : (s : State) (b i : ℕ) (c : Collection) → IsOpened s c → ScansPlain b i c → ScansPlain b i (scanned_once s c)
plain_once s b i c opened h = go (does s c).1
  where
    next : Collection
    next = scanned_once s c

    go : Moves s c next (scan (having s c) c) → ScansPlain b i next
    go (inl said) =
        let field : FieldScanned (having s c) c next = field_was_scanned (having s c) (having s next) c next said refl in
        let found = find_some (λ (r : Replica). r.place == c.scan_place) c.replicas field.replica field.found in
        let did = brings s.heap.graph.objects c opened.belongs.laid s.heap.graph field.mid field.replica.original c.scan_field refl (field.replica, found.0, refl) field.brought in
        let r = (once_lasts s c opened).1 field.replica found.0 in
        let place : next.scan_place ≡ c.scan_place = sym (ap (λ (x : Collection). x.scan_place) field.is) ∙ did.scan_place in
        inr (inr (r.0, (r.1.0, (ap (λ (p : ℕ × ℕ). p.1) r.1.1.0 ∙ (eqb-true field.replica.place c.scan_place found.1 ∙ sym place), ap (λ (h : Header). h.raw) r.1.1.1.0 ∙ field.plain))))
    go (inr (inl said)) = inr (inl (sym (ap (λ (x : Collection). x.scan_field) (replica_was_passed (having s c) (having s next) c next said refl).is)))
    go (inr (inr same)) = subst (ScansPlain b i) (sym same) h

plain_on : (s : State) (b i n : ℕ) (c : Collection) → IsOpened s c → ScansPlain b i c → ScansPlain b i (scanned_on s n c)
plain_on s b i zero c opened h = h
plain_on s b i (suc n) c opened h = plain_on s b i n (scanned_once s c) (opened_once s c opened) (plain_once s b i c opened h)

module _ (s : State) (d : Collection) (links : ℕ → ℕ) (heap : IsSpaceGraph s.size s.heap.free s.heap.graph) (opened : IsOpened s d) (b i : ℕ) (plain : ScansPlain b i d) where
  -- before the scan pointer the looks can go on
  can_go : (c k : ℕ) (mid : Tables) → IsBehind s d c k mid → (b < c) ⊎ ((b ≡ c) × (i ≤ k)) → IsBefore c k d.scan_place d.scan_field → CanGoOn (heap_words links s) (replica_words d) d.scan_place c k mid
  can_go c k mid behind on before = record {
    header = object_header q.0.object;
    is = ap (λ n. read_header (slice_index (replica_words d) n)) (sym at) ∙ shows.header;
    within = (let fits : q.0.place + (length q.0.object.fields + 2) ≤ length (replica_words d) = shows.fits in let e : q.0.place ≡ c = at in omega arith);
    passes = passes_on;
    looks = λ soft differ. subst (λ n. CanLook (heap_words links s) (replica_words d) n k mid) at
        (can_see s d q.0 k mid links heap opened here q.1.0 (let le : k ≤ length q.0.object.fields = q.1.1.1 in omega arith) soft (λ left. not_left s d links heap opened c k before (subst (λ n. IsUnscanned d n k) at left)));
  }
    where
      q : (q : Replica) × (In q d.replicas × ((q.place ≡ c) × (k ≤ length q.object.fields)))
      q = there s d links heap opened c k behind.place before

      at : q.0.place ≡ c
      at = q.1.1.0

      shows : Rattle.gc_collected.proofs.Monitor.Shown.Shows (replica_words d) q.0.original q.0.place q.0.object
      shows = (replicas_shown s d links heap opened).each q.0 q.1.0

      here : IsBehind s d q.0.place k mid
      here = subst (λ n. IsBehind s d n k mid) (sym at) behind

      same_there : (r : Replica) → In r d.replicas → r.place ≡ d.scan_place → c ≡ d.scan_place → r ≡ q.0
      same_there r l place scan = same_place 1 d.replicas (new_end d) r q.0 opened.belongs.laid l q.1.0 (place ∙ (sym scan ∙ sym at))

      -- at the scan pointer no replica is passed before its scanned fields are looked at
      at_scan : c ≡ d.scan_place → k < d.scan_field → (q.0.object.raw ≡ true) ⊎ (k ≡ length q.0.object.fields) → ⊥
      at_scan scan less (inr last) = ⊎_elim
          (λ x. (let field : d.scan_field ≤ length x.0.object.fields = x.3 in let len : length x.0.object.fields ≡ length q.0.object.fields = ap (λ (r : Replica). length r.object.fields) (same_there x.0 x.1 x.2 scan) in omega arith))
          (λ x. (let field : d.scan_field ≡ 0 = x.1 in omega arith))
          opened.belongs.scan
      at_scan scan less (inl raw) = ⊎_elim
          (λ x. (let place : d.scan_place ≡ b = x.0 in let field : d.scan_field ≡ i = x.1 in ⊎_elim (λ far. omega arith) (λ y. (let le : i ≤ k = y.1 in omega arith)) on))
          (⊎_elim
          (λ zero_is. omega arith)
          (λ x. (let no : true ≡ false = sym raw ∙ (sym (ap (λ (r : Replica). r.object.raw) (same_there x.0 x.1.0 x.1.1.0 scan)) ∙ x.1.1.1) in cc)))
          plain

      passes_on : (q.0.object.raw ≡ true) ⊎ (k ≡ length q.0.object.fields) → c + (length q.0.object.fields + 2) ≤ d.scan_place
      passes_on done = ⊎_elim
          (λ far. (let e : q.0.place ≡ c = at in let h : q.0.place + (length q.0.object.fields + 2) ≤ d.scan_place = ends_before s d links heap opened q.0 q.1.0 (omega arith) in omega arith))
          (λ x. absurd (at_scan x.0 x.1 done))
          before

  can_look_all : (mid : Tables) → IsBehind s d b i mid → CanLookAll (heap_words links s) (replica_words d) b i d.scan_place d.scan_field mid
  can_look_all mid behind n c k after run =
      let now = followed s d links heap opened n b i mid c k after behind run in
      let low : (c < d.scan_place) ⊎ ((c ≡ d.scan_place) × (k ≤ d.scan_field)) = now.earlier d.scan_place d.scan_field (inr (refl, omega arith)) in (
        λ before. can_go c k after now (forward (heap_words links s) (replica_words d) d.scan_place d.scan_field n b i mid c k after run) before,
        λ same. ⊎_elim (λ far. omega arith) (λ x. x.1) low,
        ⊎_elim (λ far. omega arith) (λ x. (let e : c ≡ d.scan_place = x.0 in omega arith)) low,
      )

-- ---- the whole run

module _ (s : State) (c : Collection) (n : ℕ) (t : Tables) (links : ℕ → ℕ) (heap : IsSpaceGraph s.size s.heap.free s.heap.graph) (opened : IsOpened s c) (goes_along : Goes s c (watch_of t)) (knows : Knows s c t) where
  abbrev last : Collection
  last = scanned_on s n c

  behind : IsBehind s c c.scan_place c.scan_field t
  behind = begins s c t opened goes_along knows

  pub run_placed : CanPlaceAll (heap_words links s) (replica_words (scanned_on s n c)) t
  run_placed = can_place_all s links c.scan_place c.scan_field heap n c t opened behind

  module _ (mid : Tables) (placed_is : PlacedAll (heap_words links s) (replica_words (scanned_on s n c)) t mid) where
    told : IsBehind s last c.scan_place c.scan_field mid
    told = knows_all s links c.scan_place c.scan_field heap n c t mid opened behind placed_is

    pub run_looked : CanLookAll (heap_words links s) (replica_words (scanned_on s n c)) c.scan_place c.scan_field (scanned_on s n c).scan_place (scanned_on s n c).scan_field mid
    run_looked = can_look_all s last links heap (all_opened s n c opened) c.scan_place c.scan_field (plain_on s c.scan_place c.scan_field n c opened (inl (refl, refl))) mid told

    pub run_followed : (after : Tables) → LookedAll (heap_words links s) (replica_words (scanned_on s n c)) c.scan_place c.scan_field (scanned_on s n c).scan_place (scanned_on s n c).scan_field mid after
        → Goes s (scanned_on s n c) (watch_of after) × Knows s (scanned_on s n c) after
    run_followed after looked = caught_up s last after (followed s last links heap (all_opened s n c opened) looked.0 c.scan_place c.scan_field mid last.scan_place last.scan_field after told looked.1)
