-- A standing checker whose looks are behind: it was told of all replicas, and looks at the scanned fields afterwards.
-- For the theorem that the monitor is never lost.
use Rattle.std.proofs.lemmas.Grind.{common_steps}
use Rattle.std.proofs.Common.{◌≡◌, ◌≢◌, ◌⊎◌, inl, inr, ⊎_elim, ℕ, suc, ◌+◌, ◌<◌, ◌≤◌, ◌==◌, Bool, true, false, ◌||◌, map, length, get_or, Some, refl, ap, sym, ◌∙◌, subst, arith}
use Rattle.std.specs.Prelude.{IsTrue, IfSome}
use Rattle.std.proofs.lemmas.Bool.{cases_eq, cases_Bool, eqb-true, or_cases, cond-true, cond-false}
use Rattle.std.proofs.lemmas.List.{get_or-set_other}
use Rattle.gc_graph.specs.Graph.{Object}
use Rattle.gc_words.specs.Layout.{field_place}
use Rattle.gc_model.specs.State.{Replica, Collection, State, heap_end, new_end}
use Rattle.gc_model.specs.Steps.{scan, scan_replica, with_collection}
use Rattle.gc_model.specs.Members.{In}
use Rattle.gc_model.specs.Belonging.{IsDue, IsUnscanned, IsScanPlace, IsSpaceGraph, IsOpened}
use Rattle.gc_model.specs.declared.step.StepReply.{StepReply}
use Rattle.gc_model.specs.declared.step.StepReply.TheVariants.{Passed, Scanned}
use Rattle.gc_model.specs.declared.step.Step.TheVariants as steps
use Rattle.gc_model.proofs.Public.{found_by_place, open_keeps, AreReplicas, Grown, bringing, replicas_due, replicas_end, its_replicas, belongs_from, laid_apart, laid_range, find_some, in_map, placed, same_place}
use Rattle.gc_monitor.specs.Claims.{CanPlaceNext, CanLook, OwesNone}
use Rattle.gc_monitor.specs.Events.{Placed, Looked, with_due}
use Rattle.gc_monitor.specs.Tables.{Tables, watch_of, due_in}
use Rattle.gc_monitor.specs.Watch.{Watch, is_due}
use Rattle.gc_collected.specs.Internal.Beside.{heap_words, replica_words}
use Rattle.gc_collected.specs.Internal.Knows.{Knows}
use Rattle.gc_collected.specs.Internal.Stays.{WatchFits}
use Rattle.gc_collected.proofs.Monitor.Agree.{replicas_shown}
use Rattle.gc_collected.proofs.Monitor.Beside.{pair_stays}
use Rattle.gc_collected.proofs.Monitor.Brought.{IsFresh, Brings, brings, FieldScanned, field_was_scanned, ReplicaPassed, replica_was_passed}
use Rattle.gc_collected.proofs.Monitor.Claimed.{is_at, can_place, can_look, origin_is}
use Rattle.gc_collected.proofs.Monitor.Events.{Goes}
use Rattle.gc_collected.proofs.Monitor.Growth.{Adds, adds_brought, adds_alike}
use Rattle.gc_collected.proofs.Monitor.Known.{KnowsBy, placed_known, looked_is, looked_known}
use Rattle.gc_collected.proofs.Monitor.StepsKnown.{knows_from, logged_same}
use Rattle.gc_collected.proofs.Monitor.Told.{Told, told_placed, fits_marked, marked_at}

-- the collection with its scan pointer where the looks are
abbrev pub lagging : Collection → ℕ → ℕ → Collection
lagging c p f = record c { scan_place = p; scan_field = f }

-- what is due for a watch whose looks have come to this place: a field that they have yet to come to is up to date if it is scanned
abbrev pub Lags : ℕ → ℕ → Collection → Watch → Bool → ℕ → ℕ → ℕ → Type 0
Lags p f c w raw q a i = IsTrue (is_due w q i) × (raw ≡ false → IsUnscanned (lagging c p f) q i → IsUnscanned c q i)

-- the looks have come to this place, which is not behind the scan pointer
pub record IsBehind (s : State) (c : Collection) (p f : ℕ) (t : Tables) : Type 0 where
  pub place : IsScanPlace p f c
  pub earlier : (q i : ℕ) → IsUnscanned c q i → IsUnscanned (lagging c p f) q i
  pub fits : WatchFits (heap_end s) c (watch_of t)
  pub each : AreReplicas s.heap.graph.objects c.size (Lags p f c (watch_of t)) c.replicas
  pub knows : Knows s (lagging c p f) t

-- ---- the two collections

pub begins : (s : State) (c : Collection) (t : Tables) → IsOpened s c → Goes s c (watch_of t) → Knows s c t → IsBehind s c c.scan_place c.scan_field t
begins s c t opened goes knows = record {
  place = opened.belongs.scan;
  earlier = λ q i u. u;
  fits = goes.fits;
  each = record { laid = opened.belongs.laid; room = opened.belongs.room; once = opened.belongs.once; each = λ r l. (let x = goes.replicas r l in record { original = x.original; found = x.found; raw = x.raw; kind = x.kind; len = x.len; current = λ i v w a b. ⊎_elim (λ d. inl (d, λ n u. u)) (λ e. inr e) (x.current i v w a b) }) };
  knows = knows;
}

-- where the looks have caught up, the checker goes along
pub caught_up : (s : State) (c : Collection) (t : Tables) → IsBehind s c c.scan_place c.scan_field t → Goes s c (watch_of t) × Knows s c t
caught_up s c t b = (
  record {
    fits = b.fits;
    replicas = λ r l. (let x = b.each.each r l in record { original = x.original; found = x.found; raw = x.raw; kind = x.kind; len = x.len; current = λ i v w a b. ⊎_elim (λ d. inl d.0) (λ e. inr e) (x.current i v w a b) });
  },
  b.knows,
)

module _ (s : State) (c : Collection) (p f : ℕ) (t : Tables) (opened : IsOpened s c) (b : IsBehind s c p f t) where
  lag_opened : IsOpened s (lagging c p f)
  lag_opened = record {
    belongs = belongs_from (IsDue (lagging c p f)) s.heap.graph.objects (lagging c p f)
        (replicas_due s.heap.graph.objects c.size (IsDue c) (IsDue (lagging c p f)) c.replicas (its_replicas (IsDue c) s.heap.graph.objects c opened.belongs) (λ r l i small d. ⊎_elim (λ u. inl (u.0, b.earlier r.place i u.1)) (λ g. inr g) d))
        b.place opened.belongs.entries opened.belongs.numbers;
    size = opened.size;
    logs = opened.logs;
  }

  lag_goes : Goes s (lagging c p f) (watch_of t)
  lag_goes = record {
    fits = record { pairs = b.fits.pairs; old_seen = b.fits.old_seen; new_seen = b.fits.new_seen; row = b.fits.row };
    replicas = λ r l. (let x = b.each.each r l in record { original = x.original; found = x.found; raw = x.raw; kind = x.kind; len = x.len; current = λ i v w a e. ⊎_elim (λ d. inl d.0) (λ e. inr e) (x.current i v w a e) });
  }

-- ---- a step of the collector, of which the checker is told the replica alone

-- the due fields other than this one
abbrev But : (Bool → ℕ → ℕ → ℕ → Type 0) → ℕ → ℕ → Bool → ℕ → ℕ → ℕ → Type 0
But Due name i raw q a j = Due raw q a j × ((a ≡ name) × (j ≡ i) → ⊥)

but_less : (Due : Bool → ℕ → ℕ → ℕ → Type 0) (name i : ℕ) (raw : Bool) (q a j : ℕ) → Due raw q a j → ((a ≡ name) × (j ≡ i)) ⊎ But Due name i raw q a j
but_less Due name i raw q a j d = grind (arith, common_steps, cases_eq)

module _ (s s' : State) (c next : Collection) (p f : ℕ) (t : Tables) (links : ℕ → ℕ) (heap : IsSpaceGraph s.size s.heap.free s.heap.graph) (before : IsOpened s c) (opened : IsOpened s next) (b : IsBehind s c p f t)
    (said : scan s c ≡ (Scanned, s')) (is : s'.collection ≡ Some next) where
  field : FieldScanned s c next
  field = field_was_scanned s s' c next said is

  there : In field.replica c.replicas × (field.replica.place ≡ c.scan_place)
  there = let f = find_some (λ (r : Replica). r.place == c.scan_place) c.replicas field.replica field.found in (f.0, eqb-true field.replica.place c.scan_place f.1)

  did : Brings s.heap.graph.objects c field.mid
  did = brings s.heap.graph.objects c before.belongs.laid s.heap.graph field.mid field.replica.original c.scan_field refl (field.replica, there.0, refl) field.brought

  same_replicas : next.replicas ≡ field.mid.replicas
  same_replicas = sym (ap (λ (x : Collection). x.replicas) field.is)

  size_is : next.size ≡ c.size
  size_is = sym (ap (λ (x : Collection). x.size) field.is) ∙ did.size

  place_is : next.scan_place ≡ c.scan_place
  place_is = sym (ap (λ (x : Collection). x.scan_place) field.is) ∙ did.scan_place

  field_is : next.scan_field ≡ suc c.scan_field
  field_is = sym (ap (λ (x : Collection). x.scan_field) field.is) ∙ ap suc did.scan_field

  logs_are : next.logs ≡ c.logs
  logs_are = sym (ap (λ (x : Collection). x.logs) field.is) ∙ did.logs

  adds : Adds c next
  adds = adds_alike c field.mid next same_replicas (adds_brought c field.mid s.heap.graph field.replica.original c.scan_field field.brought)

  lag_adds : Adds (lagging c p f) (lagging next p f)
  lag_adds = ⊎_elim (λ h. inl (record { pairs = h.pairs; end = h.end })) (λ h. inr (h.0, record { there = h.1.there; place = h.1.place; pairs = h.1.pairs; end = h.1.end })) adds

  fresh : (q : Replica) → In q next.replicas → q.place ≡ new_end c → IsFresh s.heap.graph.objects (lagging c p f) q
  fresh q l e = let x = did.fresh q (subst (In q) same_replicas l) e in record { free = x.free; same = x.same }

  -- fields that are due, and new ones
  abbrev Due : Bool → ℕ → ℕ → ℕ → Type 0
  Due raw q a j = ((raw ≡ false) × (replicas_end c.replicas ≤ q)) ⊎ Lags p f c (watch_of t) raw q a j

  grown : Grown s.heap.graph.objects c (But Due field.replica.original c.scan_field) field.mid
  grown = bringing s.heap.graph c Due (But Due field.replica.original c.scan_field) field.replica.original c.scan_field field.mid before.belongs.numbers
      (replicas_due s.heap.graph.objects c.size (Lags p f c (watch_of t)) Due c.replicas b.each (λ r l i m d. inr d)) (λ a j. inl (refl, omega arith)) (but_less Due field.replica.original c.scan_field) field.brought

  scan_place_low : c.scan_place < new_end c
  scan_place_low =
      let range = laid_range 1 (map placed c.replicas) (new_end c) (placed field.replica) before.belongs.laid (in_map placed field.replica c.replicas there.0) in
      let high : field.replica.place + (length field.replica.object.fields + 2) ≤ new_end c = range.1 in
      let at : field.replica.place ≡ c.scan_place = there.1 in
      omega arith

  -- the replica at the scan pointer is this one
  original_at : (r : Replica) → In r next.replicas → c.scan_place ≡ r.place → r.original ≡ field.replica.original
  original_at r l e =
      let k = pair_stays c next field.replica adds there.0 in
      let one : k.0 ≡ r = same_place 1 next.replicas (new_end next) k.0 r opened.belongs.laid k.1 l (ap (λ (x : ℕ × ℕ). x.1) k.2 ∙ (there.1 ∙ e)) in
      sym (ap (λ (r : Replica). r.original) one) ∙ ap (λ (x : ℕ × ℕ). x.0) k.2

  earlier_then : (q i : ℕ) → IsUnscanned next q i → IsUnscanned (lagging next p f) q i
  earlier_then q i u = b.earlier q i (⊎_elim
      (λ far. inl (let e : next.scan_place ≡ c.scan_place = place_is in omega arith))
      (λ here. inr (sym place_is ∙ here.0, (let g : next.scan_field ≡ suc c.scan_field = field_is in let le : next.scan_field ≤ i = here.1 in omega arith)))
      u)

  scan_there : IsScanPlace p f next
  scan_there = go (grown.scan p f b.place)
    where
      go : IsScanPlace p f field.mid → IsScanPlace p f next
      go (inl (r, l, e, m)) = inl (r, subst (In r) (sym same_replicas) l, e, m)
      go (inr (e, z)) = inr (e ∙ ap replicas_end (sym same_replicas), z)

  lag_next : IsOpened s (lagging next p f)
  lag_next = record {
    belongs = belongs_from (IsDue (lagging next p f)) s.heap.graph.objects (lagging next p f)
        (replicas_due s.heap.graph.objects next.size (IsDue next) (IsDue (lagging next p f)) next.replicas (its_replicas (IsDue next) s.heap.graph.objects next opened.belongs) (λ r l i small d. ⊎_elim (λ u. inl (u.0, earlier_then r.place i u.1)) (λ g. inr g) d))
        scan_there opened.belongs.entries opened.belongs.numbers;
    size = opened.size;
    logs = opened.logs;
  }

  -- what the checker is told of the replica is true
  pub still_true : CanPlaceNext (heap_words links s) (replica_words next) t
  still_true = can_place s (lagging c p f) (lagging next p f) t links heap (lag_opened s c p f t before b) lag_next (lag_goes s c p f t before b) b.knows lag_adds size_is

  module _ (mid : Tables) (placed_is : Placed (heap_words links s) (replica_words next) t mid) (owes : OwesNone (heap_words links s) (replica_words next) t mid) where
    told : Told (heap_end s) c next t mid
    told = told_placed (heap_end s) c next (replica_words next) t b.fits (replicas_shown s next links heap opened) (heap_words links s) mid adds placed_is

    less : (r : Replica) → In r next.replicas → (j : ℕ) → j < length r.object.fields → But Due field.replica.original c.scan_field r.object.raw r.place r.original j → Lags p f next (watch_of mid) r.object.raw r.place r.original j
    less r l j m (inl new, other) = (told.1 r l j m (inl new), λ n u. inl (let a = scan_place_low in let e : next.scan_place ≡ c.scan_place = place_is in let x : replicas_end c.replicas ≤ r.place = new.1 in omega arith))
    less r l j m (inr d, other) = (
      told.1 r l j m (inr d.0),
      λ n u. ⊎_elim
          (λ far. inl (let e : next.scan_place ≡ c.scan_place = place_is in omega arith))
          (λ here. inr (
            place_is ∙ here.0,
            (
                let g : next.scan_field ≡ suc c.scan_field = field_is in
                let le : c.scan_field ≤ j = here.1 in
                let differ : j ≢ c.scan_field = (λ e. other (original_at r l here.0, e)) in
                omega arith),
          ))
          (d.1 n u),
    )

    pub still_behind : IsBehind s next p f mid
    still_behind =
        let known = placed_known s (lagging c p f) (lagging next p f) t links heap (lag_opened s c p f t before b) lag_next (lag_goes s c p f t before b) b.knows lag_adds fresh mid placed_is owes in
        record {
          place = scan_there;
          earlier = earlier_then;
          fits = told.0;
          each = each_is;
          knows = knows_from (IsDue (lagging c p f)) s (lagging next p f) mid known.0
              ((let e : mid.room ≡ t.room = known.1 in let o : s.size ≤ t.room = b.knows.old_room in omega arith), (let e : mid.room ≡ t.room = known.1 in let o : c.size ≤ t.room = b.knows.new_room in let z : next.size ≡ c.size = size_is in omega arith))
              (λ r l i small d. ⊎_elim (λ u. inl (u.0, u.1)) (λ g. inr (logged_same (lagging c p f) (lagging next p f) r.original i logs_are g)) d);
        }
      where
        each_is : AreReplicas s.heap.graph.objects next.size (Lags p f next (watch_of mid)) next.replicas
        each_is = subst (λ n. AreReplicas s.heap.graph.objects n (Lags p f next (watch_of mid)) next.replicas) (ap (λ (x : Collection). x.size) field.is)
            (replicas_due s.heap.graph.objects field.mid.size (But Due field.replica.original c.scan_field) (Lags p f next (watch_of mid)) next.replicas
            (subst (AreReplicas s.heap.graph.objects field.mid.size (But Due field.replica.original c.scan_field)) (sym same_replicas) grown.replicas) less)

-- ---- the collector passes a replica

-- what is unscanned of the replicas stays so where the scan pointer passes one whose fields are scanned
unscanned_on : (s : State) (c next : Collection) → IsOpened s c → ReplicaPassed c next → (q : Replica) → In q c.replicas → q.object.raw ≡ false → (i : ℕ) → i < length q.object.fields → IsUnscanned c q.place i → IsUnscanned next q.place i
unscanned_on s c next opened passed q l plain i small u = go u
  where
    r : Replica
    r = passed.replica

    at : In passed.replica c.replicas × (passed.replica.place ≡ c.scan_place)
    at = let f = find_some (λ (r : Replica). r.place == c.scan_place) c.replicas passed.replica passed.found in (f.0, eqb-true passed.replica.place c.scan_place f.1)

    next_is : next.scan_place ≡ c.scan_place + (length passed.replica.object.fields + 2)
    next_is = sym (ap (λ (x : Collection). x.scan_place) passed.is)

    field_is : next.scan_field ≡ 0
    field_is = sym (ap (λ (x : Collection). x.scan_field) passed.is)

    go : IsUnscanned c q.place i → IsUnscanned next q.place i
    go (inl far) =
        let place : passed.replica.place ≡ c.scan_place = at.1 in
        let after : passed.replica.place + (length passed.replica.object.fields + 2) ≤ q.place = ⊎_elim
        (λ e. (let p : passed.replica.place ≡ q.place = ap (λ (e : ℕ × Object). e.0) e in absurd (omega arith)))
        (⊎_elim (λ b. b) (λ a. (let x : q.place + (length q.object.fields + 2) ≤ passed.replica.place = a in absurd (omega arith))))
        (laid_apart 1 (map placed c.replicas) (new_end c) (placed passed.replica) (placed q) opened.belongs.laid (in_map placed passed.replica c.replicas at.0) (in_map placed q c.replicas l)) in
        let n : next.scan_place ≡ c.scan_place + (length passed.replica.object.fields + 2) = next_is in
        let f : next.scan_field ≡ 0 = field_is in
        elim (cases_eq next.scan_place q.place) [
          | inl e ↦ inr (e, omega arith)
          | inr o ↦ inl (omega arith)
        ]
    go (inr (place, le)) =
        let one : q ≡ passed.replica = same_place 1 c.replicas (new_end c) q passed.replica opened.belongs.laid l at.0 (sym place ∙ sym at.1) in
        let raw : passed.replica.object.raw ≡ false = ap (λ (r : Replica). r.object.raw) (sym one) ∙ plain in
        let len : length q.object.fields ≡ length passed.replica.object.fields = ap (λ (r : Replica). length r.object.fields) one in
        let last : c.scan_field ≡ length passed.replica.object.fields = ⊎_elim
        (λ y. absurd (let no : true ≡ false = sym y ∙ raw in cc))
        (λ y. eqb-true c.scan_field (length passed.replica.object.fields) y)
        (or_cases passed.replica.object.raw (c.scan_field == length passed.replica.object.fields) passed.done) in
        let x : c.scan_field ≤ i = le in
        absurd (omega arith)

-- the scan pointer goes on, and the looks stay
pub passes : (s s' : State) (c next : Collection) (p f : ℕ) (t : Tables) → IsOpened s c → IsBehind s c p f t → scan s c ≡ (Passed, s') → s'.collection ≡ Some next → IsBehind s next p f t
passes s s' c next p f t opened b said is = record {
  place = subst (λ (x : Collection). IsScanPlace p f x) passed.is b.place;
  earlier = λ q i u. b.earlier q i (later q i u);
  fits = fits_on b.fits;
  each = subst (λ (x : Collection). AreReplicas s.heap.graph.objects x.size (Lags p f next (watch_of t)) x.replicas) passed.is
      (replicas_due s.heap.graph.objects c.size (Lags p f c (watch_of t)) (Lags p f next (watch_of t)) c.replicas b.each
      (λ r l i small d. (d.0, λ n u. unscanned_on s c next opened passed r l n i small (d.1 n u))));
  knows = subst (λ (x : Collection). Knows s (lagging x p f) t) passed.is b.knows;
}
  where
    passed : ReplicaPassed c next
    passed = replica_was_passed s s' c next said is

    next_is : next.scan_place ≡ c.scan_place + (length passed.replica.object.fields + 2)
    next_is = sym (ap (λ (x : Collection). x.scan_place) passed.is)

    later : (q i : ℕ) → IsUnscanned next q i → IsUnscanned c q i
    later q i u = inl (let n : next.scan_place ≡ c.scan_place + (length passed.replica.object.fields + 2) = next_is in ⊎_elim (λ far. omega arith) (λ here. (let e : next.scan_place ≡ q = here.0 in omega arith)) u)

    fits_on : WatchFits (heap_end s) c (watch_of t) → WatchFits (heap_end s) next (watch_of t)
    fits_on h = subst (λ (x : Collection). WatchFits (heap_end s) x (watch_of t)) passed.is (record { pairs = h.pairs; old_seen = h.old_seen; new_seen = h.new_seen; row = h.row })

-- ---- a look at a field that was scanned

module _ (s : State) (c : Collection) (q : Replica) (f : ℕ) (t : Tables) (links : ℕ → ℕ) (heap : IsSpaceGraph s.size s.heap.free s.heap.graph) (opened : IsOpened s c) (b : IsBehind s c q.place f t)
    (l : In q c.replicas) (small : f < length q.object.fields) (plain : q.object.raw ≡ false) (scanned : IsUnscanned c q.place f → ⊥) where
  abbrev later : Watch
  later = watch_of (with_due t (field_place q.place f) false)

  lag_fits : WatchFits (heap_end s) (lagging c q.place f) (watch_of t)
  lag_fits = record { pairs = b.fits.pairs; old_seen = b.fits.old_seen; new_seen = b.fits.new_seen; row = b.fits.row }

  one_field : (r : Replica) → In r c.replicas → (j : ℕ) → j < length r.object.fields → field_place r.place j ≡ field_place q.place f → (r ≡ q) × (j ≡ f)
  one_field r k j m same = ⊎_elim
      (λ e. (let place : r.place ≡ q.place = ap (λ (e : ℕ × Object). e.0) e in (same_place 1 c.replicas (new_end c) r q opened.belongs.laid k l place, omega arith)))
      (⊎_elim (λ before. absurd (let b : r.place + (length r.object.fields + 2) ≤ q.place = before in omega arith)) (λ after. absurd (let b : q.place + (length q.object.fields + 2) ≤ r.place = after in omega arith)))
      (laid_apart 1 (map placed c.replicas) (new_end c) (placed r) (placed q) opened.belongs.laid (in_map placed r c.replicas k) (in_map placed q c.replicas l))

  one_less : (r : Replica) → In r c.replicas → (j : ℕ) → j < length r.object.fields → Lags q.place f c (watch_of t) r.object.raw r.place r.original j → Lags q.place (suc f) c later r.object.raw r.place r.original j
  one_less r k j m d = elim (cases_eq (field_place r.place j) (field_place q.place f)) [
    | inl same ↦ absurd (let o = one_field r k j m same in
        scanned (subst (λ (x : Replica). IsUnscanned c x.place f) o.0 (subst (λ n. IsUnscanned c r.place n) o.1 (d.1 (ap (λ (x : Replica). x.object.raw) o.0 ∙ plain) (inr (sym (ap (λ (x : Replica). x.place) o.0), (let e : j ≡ f = o.1 in omega arith)))))))
    | inr other ↦ (
      ap (λ bs. get_or bs (field_place r.place j) false) (marked_at t (field_place q.place f) false) ∙ (get_or-set_other (due_in t.news) (field_place q.place f) (field_place r.place j) false false other ∙ d.0),
      λ n u. d.1 n (⊎_elim (λ far. inl far) (λ here. inr (here.0, (let le : suc f ≤ j = here.1 in omega arith))) u),
    )
  ]

  each_then : AreReplicas s.heap.graph.objects c.size (Lags q.place (suc f) c later) c.replicas
  each_then = replicas_due s.heap.graph.objects c.size (Lags q.place f c (watch_of t)) (Lags q.place (suc f) c later) c.replicas b.each one_less

  goes_then : Goes s (lagging c q.place f) later
  goes_then = record {
    fits = fits_marked (heap_end s) (lagging c q.place f) t (field_place q.place f) false lag_fits;
    replicas = λ r k. (let x = each_then.each r k in record { original = x.original; found = x.found; raw = x.raw; kind = x.kind; len = x.len; current = λ i v w a e. ⊎_elim (λ d. inl d.0) (λ e. inr e) (x.current i v w a e) });
  }

  pub can_see : CanLook (heap_words links s) (replica_words c) q.place f t
  can_see = can_look s c links heap opened t q f l b.fits small

  pub sees : (after : Tables) → Looked (heap_words links s) (replica_words c) q.place f t after → IsBehind s c q.place (suc f) after
  sees after looked = subst (IsBehind s c q.place (suc f)) (sym found.0) (record {
    place = inl (q, l, refl, omega arith);
    earlier = λ r i u. ⊎_elim
        (λ far. inl far)
        (λ here. inr (
          here.0,
          (
              let le : f ≤ i = here.1 in
              let differ : i ≢ f = (λ e. scanned (subst (λ n. IsUnscanned c q.place n) e (subst (λ n. IsUnscanned c n i) (sym here.0) u))) in
              omega arith),
        ))
        (b.earlier r i u);
    fits = fits_marked (heap_end s) c t (field_place q.place f) false b.fits;
    each = each_then;
    knows = knows_from (λ raw p a j. IsDue (lagging c q.place f) raw p a j × ((p ≡ q.place) × (j ≡ f) → ⊥)) s (lagging c q.place (suc f)) (with_due t (field_place q.place f) false)
        (record { agree = known.agree; due = known.due; marks = known.marks }) (b.knows.old_room, b.knows.new_room)
        (λ r k j m d. ⊎_elim
        (λ u. inl (u.0, ⊎_elim (λ far. inl far) (λ here. inr (here.0, (let le : f ≤ j = here.1 in let differ : j ≢ f = (λ e. d.1 (sym here.0, e)) in omega arith))) u.1))
        (λ g. inr g)
        d.0);
  })
    where
      low : 1 ≤ q.original
      low = (is_at s c links heap opened q l).low

      found : (after ≡ with_due t (field_place q.place f) false) × (f < length q.object.fields)
      found = looked_is (IsDue (lagging c q.place f)) s (lagging c q.place f) links heap (lag_opened s c q.place f t opened b) t lag_fits after q q.place f l refl low goes_then (origin_is (heap_end s) c t q b.fits l low) looked

      known : KnowsBy (λ raw p a j. IsDue (lagging c q.place f) raw p a j × ((p ≡ q.place) × (j ≡ f) → ⊥)) s (lagging c q.place f) (with_due t (field_place q.place f) false)
      known = looked_known (IsDue (lagging c q.place f)) s (lagging c q.place f) links heap (lag_opened s c q.place f t opened b) t lag_fits q f l small (record { agree = b.knows.agree; due = b.knows.due; marks = b.knows.marks })

-- ---- the looks go on to the next replica

module _ (s : State) (c : Collection) (q : Replica) (f : ℕ) (t : Tables) (opened : IsOpened s c) (b : IsBehind s c q.place f t) (l : In q c.replicas) (done : (q.object.raw || (f == length q.object.fields)) ≡ true) (before : q.place < c.scan_place) where
  passing : ReplicaPassed (lagging c q.place f) (lagging c (q.place + (length q.object.fields + 2)) 0)
  passing = record { replica = q; found = found_by_place (IsDue c) s.heap.graph.objects c opened.belongs q l; done = done; is = refl }

  -- the scan pointer is at the end of this replica or behind it
  at_least : q.place + (length q.object.fields + 2) ≤ c.scan_place
  at_least = ⊎_elim
      (λ x. let at : x.0.place ≡ c.scan_place = x.2 in ⊎_elim
      (λ e. absurd (let p : q.place ≡ x.0.place = ap (λ (e : ℕ × Object). e.0) e in omega arith))
      (⊎_elim (λ h. (let k : q.place + (length q.object.fields + 2) ≤ x.0.place = h in omega arith)) (λ h. absurd (let k : x.0.place + (length x.0.object.fields + 2) ≤ q.place = h in omega arith)))
      (laid_apart 1 (map placed c.replicas) (new_end c) (placed q) (placed x.0) opened.belongs.laid (in_map placed q c.replicas l) (in_map placed x.0 c.replicas x.1)))
      (λ x. let at : c.scan_place ≡ new_end c = x.0 in let range = laid_range 1 (map placed c.replicas) (new_end c) (placed q) opened.belongs.laid (in_map placed q c.replicas l) in let high : q.place + (length q.object.fields + 2) ≤ new_end c = range.1 in omega arith)
      opened.belongs.scan

  there_is : IsScanPlace (q.place + (length q.object.fields + 2)) 0 c
  there_is = kept.belongs.scan
    where
      open_lag : State
      open_lag = with_collection s (Some (lagging c q.place f))

      not_done : (q.place == new_end c) ≡ false
      not_done =
          let range = laid_range 1 (map placed c.replicas) (new_end c) (placed q) opened.belongs.laid (in_map placed q c.replicas l) in
          let high : q.place + (length q.object.fields + 2) ≤ new_end c = range.1 in
          elim (cases_Bool (q.place == new_end c)) [
            | inl y ↦ absurd (let e : q.place ≡ new_end c = eqb-true q.place (new_end c) y in omega arith)
            | inr n ↦ n
          ]

      said : scan open_lag (lagging c q.place f) ≡ (Passed, with_collection open_lag (Some (lagging c (q.place + (length q.object.fields + 2)) 0)))
      said = cond-false (q.place == new_end c) _ _ not_done ∙ (ap (scan_replica open_lag (lagging c q.place f)) (found_by_place (IsDue c) s.heap.graph.objects c opened.belongs q l) ∙ cond-true (q.object.raw || (f == length q.object.fields)) _ _ done)

      kept : IsOpened open_lag (lagging c (q.place + (length q.object.fields + 2)) 0)
      kept =
          let o = lag_opened s c q.place f t opened b in
          let k = open_keeps open_lag (lagging c q.place f) steps.Scan refl (record { belongs = o.belongs; size = o.size; logs = o.logs }) (λ e. cc) in
          subst (λ (x : StepReply × State). IfSome x.1.collection (IsOpened open_lag)) said k

  pub goes_on : IsBehind s c (q.place + (length q.object.fields + 2)) 0 t
  goes_on = record {
    place = there_is;
    earlier = λ r i u. ⊎_elim
        (λ far. inl (let a : q.place + (length q.object.fields + 2) ≤ c.scan_place = at_least in omega arith))
        (λ here. (let a : q.place + (length q.object.fields + 2) ≤ c.scan_place = at_least in let e : c.scan_place ≡ r = here.0 in elim (cases_eq (q.place + (length q.object.fields + 2)) r) [
          | inl same ↦ inr (same, omega arith)
          | inr other ↦ inl (omega arith)
        ]))
        u;
    fits = b.fits;
    each = replicas_due s.heap.graph.objects c.size (Lags q.place f c (watch_of t)) (Lags (q.place + (length q.object.fields + 2)) 0 c (watch_of t)) c.replicas b.each
        (λ r k i small d. (d.0, λ n u. d.1 n (inl (⊎_elim (λ far. omega arith) (λ here. (let e : q.place + (length q.object.fields + 2) ≡ r.place = here.0 in omega arith)) u))));
    knows = knows_from (IsDue (lagging c q.place f)) s (lagging c (q.place + (length q.object.fields + 2)) 0) t (record { agree = b.knows.agree; due = b.knows.due; marks = b.knows.marks }) (b.knows.old_room, b.knows.new_room)
        (λ r k i small d. ⊎_elim (λ u. inl (u.0, unscanned_on s (lagging c q.place f) (lagging c (q.place + (length q.object.fields + 2)) 0) (lag_opened s c q.place f t opened b) passing r k u.0 i small u.1)) (λ g. inr g) d);
  }
