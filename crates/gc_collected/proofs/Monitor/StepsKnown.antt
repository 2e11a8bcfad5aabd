-- The tables of a standing checker know the collection through the collector's steps, and it is not lost at any.
-- For the theorem that the monitor is never lost.
use Rattle.std.proofs.lemmas.Grind.{common_steps}
use Rattle.std.proofs.Common.{◌≡◌, ◌⊎◌, inl, inr, ⊎_elim, ℕ, ◌<◌, ◌≤◌, Bool, false, List, ◌∷◌, length, get_or, Some, None, refl, ap, sym, ◌∙◌, subst, arith, []}
use Rattle.std.specs.Prelude.{slice_get, slice_set}
use Rattle.std.specs.Option.{unwrap_or}
use Rattle.std.proofs.lemmas.Bool.{cases_eq}
use Rattle.gc_graph.specs.Graph.{Object, lookup}
use Rattle.gc_words.specs.Layout.{field_place}
use Rattle.gc_model.specs.State.{Replica, Collection, State, heap_end, new_end}
use Rattle.gc_model.specs.Linked.{LeadsTo}
use Rattle.gc_model.specs.Steps.{log_at, with_log, root_target, copy_root, scan, apply_log}
use Rattle.gc_model.specs.Members.{In}
use Rattle.gc_model.specs.Belonging.{IsDue, IsLogged, IsUnscanned, IsSpaceGraph, IsOpened}
use Rattle.gc_model.specs.declared.step.StepReply.TheVariants.{Copied, Applied}
use Rattle.gc_model.proofs.Public.{get_past, get_set_same, get_set_other, same_original}
use Rattle.gc_monitor.specs.Claims.{CanPlaceNext, CanApply, OwesNone}
use Rattle.gc_monitor.specs.Events.{Placed, Looked, Applied as AppliedTo, with_due}
use Rattle.gc_monitor.specs.Tables.{Tables, watch_of}
use Rattle.gc_collected.specs.Internal.Beside.{heap_words, replica_words}
use Rattle.gc_collected.specs.Internal.Knows.{Knows}
use Rattle.gc_collected.specs.Internal.Stays.{LosesOnly, WatchFits}
use Rattle.gc_collected.proofs.Monitor.Agree.{replicas_shown}
use Rattle.gc_collected.proofs.Monitor.Brought.{IsFresh, Brings, brings_none, brings_placed, brings, RootCopied, root_copied, entry_was_applied}
use Rattle.gc_collected.proofs.Monitor.Claimed.{origin_is, is_at, can_place, can_apply}
use Rattle.gc_collected.proofs.Monitor.Events.{Goes, entry_applied}
use Rattle.gc_collected.proofs.Monitor.Growth.{Adds, adds_none, adds_placed, adds_brought}
use Rattle.gc_collected.proofs.Monitor.Known.{KnowsBy, placed_known, looked_is, looked_known}
use Rattle.gc_collected.proofs.Monitor.Told.{Told, told_placed, told_marked, replica_there}

-- what is known in one sense is known in another, if each field that is due in the first is in the second
pub knows_from : (Due : Bool → ℕ → ℕ → ℕ → Type 0) (s : State) (c : Collection) (t : Tables) → KnowsBy Due s c t → (s.size ≤ t.room) × (c.size ≤ t.room)
    → ((r : Replica) → In r c.replicas → (i : ℕ) → i < length r.object.fields → Due r.object.raw r.place r.original i → IsDue c r.object.raw r.place r.original i) → Knows s c t
knows_from Due s c t h rooms less = grind (arith, common_steps)

pub logged_same : (c next : Collection) (a i : ℕ) → next.logs ≡ c.logs → IsLogged c a i → IsLogged next a i
logged_same c next a i same (k, l) = (k, subst (λ logs. In {X = ℕ × ℕ} (a, i) (unwrap_or (slice_get logs k) [])) (sym same) l)

pub unscanned_same : (c next : Collection) (p i : ℕ) → next.scan_place ≡ c.scan_place → next.scan_field ≡ c.scan_field → IsUnscanned c p i → IsUnscanned next p i
unscanned_same c next p i place field u = ⊎_elim (λ l. inl (omega arith)) (λ e. inr (place ∙ e.0, (let x : c.scan_field ≤ i = e.1 in omega arith))) u

-- ---- one of a row of logs has lost its oldest entry

log_out : (logs : List (List (ℕ × ℕ))) (m : ℕ) (entry : ℕ × ℕ) (rest : List (ℕ × ℕ)) (k : ℕ) (e : ℕ × ℕ) → unwrap_or (slice_get logs m) [] ≡ entry ∷ rest → In e (unwrap_or (slice_get logs k) [])
    → (entry ≡ e) ⊎ In e (unwrap_or (slice_get (slice_set logs m rest) k) [])
log_out logs m entry rest k e is l = grind (arith, common_steps, cases_eq, get_set_same, get_set_other, get_past)

module _ (s : State) (c next : Collection) (t : Tables) (links : ℕ → ℕ) (heap : IsSpaceGraph s.size s.heap.free s.heap.graph) (before : IsOpened s c) (opened : IsOpened s next) (goes : Goes s c (watch_of t)) (knows : Knows s c t) where
  -- the tables still have room for both spaces
  rooms : (after : Tables) → after.room ≡ t.room → next.size ≡ c.size → (s.size ≤ after.room) × (next.size ≤ after.room)
  rooms after room size = (let old_room : s.size ≤ t.room = knows.old_room in let new_room : c.size ≤ t.room = knows.new_room in (omega arith, omega arith))

  -- a field of a replica was looked at, which is due no more
  looked_at : (mid after : Tables) (q : Replica) (b i : ℕ) → Told (heap_end s) c next t mid → KnowsBy (IsDue c) s next mid × (mid.room ≡ t.room) → next.size ≡ c.size → In q next.replicas → q.place ≡ b → i < length q.object.fields → get_or mid.origins b 0 ≡ q.original
      → Looked (heap_words links s) (replica_words next) b i mid after
      → (WatchFits (heap_end s) next (watch_of (with_due mid (field_place b i) false)) → LosesOnly (new_end c) q.original i (watch_of t) next (watch_of (with_due mid (field_place b i) false)) → Goes s next (watch_of (with_due mid (field_place b i) false)))
      → ((r : Replica) (j : ℕ) → In r next.replicas → IsDue c r.object.raw r.place r.original j → ((r.place ≡ q.place) × (j ≡ i) → ⊥) → IsDue next r.object.raw r.place r.original j) → Knows s next after
  looked_at mid after q b i told known size there place small origin looked goes_on due =
      let m = told_marked (heap_end s) (new_end c) (watch_of t) next (replica_words next) (replicas_shown s next links heap opened) mid false q b i there place small told.0 told.1 in
      let l = looked_is (IsDue c) s next links heap opened mid told.0 after q b i there place (is_at s next links heap opened q there).low (goes_on m.0 m.1) origin looked in
      subst (Knows s next) (sym (l.0 ∙ ap (λ n. with_due mid (field_place n i) false) (sym place)))
      (knows_from (λ raw p a j. IsDue c raw p a j × ((p ≡ q.place) × (j ≡ i) → ⊥)) s next (with_due mid (field_place q.place i) false) (looked_known (IsDue c) s next links heap opened mid told.0 q i there small known.0)
      (rooms (with_due mid (field_place q.place i) false) known.1 size) (λ r l j within d. due r j l d.0 d.1))

  -- ---- `Roots`

  module _ (s' : State) (said : copy_root s c (root_target c s.heap.graph) ≡ (Copied, s')) (is : s'.collection ≡ Some next) where
    root : RootCopied s c next
    root = root_copied s s' c next said is

    root_brings : Brings s.heap.graph.objects c next
    root_brings = brings_placed s.heap.graph.objects c before.belongs.laid next root.name root.none root.is

    root_adds : Adds c next
    root_adds = inr (adds_placed c next root.name (lookup s.heap.graph.objects root.name) root.is)

    pub roots_told : CanPlaceNext (heap_words links s) (replica_words next) t
    roots_told = can_place s c next t links heap before opened goes knows root_adds root_brings.size

    pub roots_known : (after : Tables) → Placed (heap_words links s) (replica_words next) t after → OwesNone (heap_words links s) (replica_words next) t after → Knows s next after
    roots_known after placed_is owes =
        let p = placed_known s c next t links heap before opened goes knows root_adds root_brings.fresh after placed_is owes in
        knows_from (IsDue c) s next after p.0 (rooms after p.1 root_brings.size) (λ r l i small d. ⊎_elim
        (λ u. inl (u.0, unscanned_same c next r.place i root_brings.scan_place root_brings.scan_field u.1))
        (λ g. inr (logged_same c next r.original i root_brings.logs g))
        d)

  -- ---- `Apply`

  module _ (s' : State) (m : ℕ) (entry : ℕ × ℕ) (rest : List (ℕ × ℕ)) (log_is : log_at c m ≡ entry ∷ rest) (said : apply_log s c m (entry ∷ rest) ≡ (Applied, s')) (is : s'.collection ≡ Some next) where
    -- what it did
    record DidApply : Type 0 where
      adds : Adds c next
      size : next.size ≡ c.size
      logs : next.logs ≡ slice_set c.logs m rest
      scan_place : next.scan_place ≡ c.scan_place
      scan_field : next.scan_field ≡ c.scan_field
      fresh : (q : Replica) → In q next.replicas → q.place ≡ new_end c → IsFresh s.heap.graph.objects c q

    entry_did : DidApply
    entry_did = go (entry_was_applied s s' c next m entry rest said is).is
      where
        c' : Collection
        c' = with_log c m rest

        with_old : Adds c' next → Adds c next
        with_old (inl h) = inl (record { pairs = h.pairs; end = h.end })
        with_old (inr h) = inr (h.0, record { there = h.1.there; place = h.1.place; pairs = h.1.pairs; end = h.1.end })

        by : Adds c' next → Brings s.heap.graph.objects c' next → DidApply
        by a b = record {
          adds = with_old a;
          size = b.size;
          logs = b.logs;
          scan_place = b.scan_place;
          scan_field = b.scan_field;
          fresh = λ q l e. (let f = b.fresh q l e in record { free = f.free; same = f.same });
        }

        go : ((r : Replica) × In r c.replicas × (r.original ≡ entry.0) × (Rattle.gc_model.specs.Steps.bring_up_to_date (with_log c m rest) s.heap.graph entry.0 entry.1 ≡ Some next)) ⊎ ((Rattle.gc_model.specs.State.replica_of c entry.0 ≡ None) × (with_log c m rest ≡ next)) → DidApply
        go (inl (r, l, name, brought)) = by (adds_brought c' next s.heap.graph entry.0 entry.1 brought) (brings s.heap.graph.objects c' before.belongs.laid s.heap.graph next entry.0 entry.1 refl (r, l, name) brought)
        go (inr (none, same)) = by (subst (Adds c') same (adds_none c')) (subst (Brings s.heap.graph.objects c') same (brings_none s.heap.graph.objects c' before.belongs.laid))

    pub entry_placed : CanPlaceNext (heap_words links s) (replica_words next) t
    entry_placed = can_place s c next t links heap before opened goes knows entry_did.adds entry_did.size

    -- the entry is of a field
    has : (o : Object) → lookup s.heap.graph.objects entry.0 ≡ Some o → entry.1 < length o.fields
    has o found =
        let h = before.belongs.entries entry.0 entry.1 (m, subst (In {X = ℕ × ℕ} (entry.0, entry.1)) (sym log_is) (inl refl)) in
        let same : h.0 ≡ o = (let e : Some h.0 ≡ Some o = sym h.1 ∙ found in cc) in
        subst (λ (o : Object). entry.1 < length o.fields) same h.2

    module _ (mid : Tables) (placed_is : Placed (heap_words links s) (replica_words next) t mid) (owes : OwesNone (heap_words links s) (replica_words next) t mid) where
      entry_told : Told (heap_end s) c next t mid
      entry_told = told_placed (heap_end s) c next (replica_words next) t goes.fits (replicas_shown s next links heap opened) (heap_words links s) mid entry_did.adds placed_is

      entry_mid : KnowsBy (IsDue c) s next mid × (mid.room ≡ t.room)
      entry_mid = placed_known s c next t links heap before opened goes knows entry_did.adds entry_did.fresh mid placed_is owes

      pub entry_looked : LeadsTo links next → CanApply (heap_words links s) (replica_words next) entry.0 entry.1 mid
      entry_looked same = can_apply s next links heap opened mid entry.0 entry.1 same entry_told.0 entry_mid.0.marks has

      -- a field that is due still, unless its entry is the one that is gone
      less : (r : Replica) (i : ℕ) → IsDue c r.object.raw r.place r.original i → ((r.original ≡ entry.0) × (i ≡ entry.1) → ⊥) → IsDue next r.object.raw r.place r.original i
      less r i (inl u) apart = inl (u.0, unscanned_same c next r.place i entry_did.scan_place entry_did.scan_field u.1)
      less r i (inr (k, l)) apart = inr (⊎_elim
          (λ (e : entry ≡ (r.original, i)). absurd (apart (sym (ap (λ (p : ℕ × ℕ). p.0) e), sym (ap (λ (p : ℕ × ℕ). p.1) e))))
          (λ x. (k, subst (λ logs. In {X = ℕ × ℕ} (r.original, i) (unwrap_or (slice_get logs k) [])) (sym entry_did.logs) x))
          (log_out c.logs m entry rest k (r.original, i) log_is l))

      pub entry_known : (after : Tables) → AppliedTo (heap_words links s) (replica_words next) entry.0 entry.1 mid after → Knows s next after
      entry_known after (inl (none, same)) = subst (Knows s next) (sym same) (knows_from (IsDue c) s next mid entry_mid.0 (rooms mid entry_mid.1 entry_did.size) (λ r l i small d.
          less r i d (λ e.
          let low : 1 ≤ r.original = (is_at s next links heap opened r l).low in
          let origin : get_or mid.origins r.place 0 ≡ r.original = origin_is (heap_end s) next mid r entry_told.0 l low in
          none r.place (omega arith) (origin ∙ e.0))))
      entry_known after (inr (b, at, looked)) =
          let q = replica_there (heap_end s) next mid entry_told.0 entry.0 b at in
          let name : q.0.original ≡ entry.0 = ap (λ (p : ℕ × ℕ). p.0) q.2 in
          let place : q.0.place ≡ b = ap (λ (p : ℕ × ℕ). p.1) q.2 in
          let ok = opened.belongs.replicas q.0 q.1 in
          let small : entry.1 < length ok.original.fields = has ok.original (ap (lookup s.heap.graph.objects) (sym name) ∙ ok.found) in
          let len : length q.0.object.fields ≡ length ok.original.fields = ok.len in
          let less_is : entry.1 < length q.0.object.fields = omega arith in
          let later = watch_of (with_due mid (field_place b entry.1) false) in
          looked_at mid after q.0 b entry.1 entry_told entry_mid entry_did.size q.1 place less_is (at.origin ∙ sym name) looked
          (λ fits loses. entry_applied s s' c next m entry rest (watch_of t) later before goes said is fits (subst (λ n. LosesOnly (new_end c) n entry.1 (watch_of t) next later) name loses))
          (λ r i there d apart. less r i d (λ e.
          let one : r ≡ q.0 = same_original next.replicas r q.0 opened.belongs.once there q.1 (e.0 ∙ sym name) in
          apart (ap (λ (r : Replica). r.place) one, e.1)))
