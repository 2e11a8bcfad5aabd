-- Each event keeps the heap well formed and the collection belonging to it.
use Rattle.std.proofs.lemmas.Grind.{common_steps}
use Rattle.std.specs.Prelude.{is_none, IfSome}
use Rattle.std.specs.Option.{option_map, option_map_or, unwrap_or}
use Rattle.std.proofs.Common.{◌≡◌, ◌≢◌, ◌⊎◌, inl, inr, ⊎_elim, ℕ, zero, suc, ◌+◌, ◌-◌, ◌<◌, ◌≤◌, ◌==◌, nat_lt, Bool, true, false, cond, ◌||◌, List, [], ◌∷◌, ◌++◌, map, length, set, replicate, Option, Some, None, is_some, slice_get, flat_map, refl, ap, sym, ◌∙◌, subst, arith, length-set}
use Rattle.std.specs.List.{list_all, find}
use Rattle.std.proofs.lemmas.Bool.{cases_eq, cond_both, eqb-true, eqb-false, ltb-false, and_parts, or_cases, or_parts, not-true}
use Rattle.std.proofs.lemmas.List.{length-replicate, length-map, map-append}
use Rattle.gc_graph.specs.Graph.{Value, Nil, Num, Ref, Object, Graph, lookup, field_of, names_of}
use Rattle.gc_graph.specs.Machine.{Roomy, words_taken, is_number, step}
use Rattle.gc_graph.specs.Range.{IsCommand}
use Rattle.gc_model.specs.Runs.{HasRange}
use Rattle.gc_graph.specs.Correspond.{correspond}
use Rattle.gc_model.specs.State.{Replica, Collection, State, heap_end, new_end, new_free, replica_of, replica_at, pairs_of, moved, new_graph}
use Rattle.gc_model.specs.Steps.{written, log_at, with_log, logged, mutate, fresh_replica, place_replica, with_replica, with_written, write_replica, bring_value, bring_up_to_date, with_collection, if_room, fresh_collection, root_target, copy_root, scan, next_object, scan_replica, apply_entry, is_empty, roots_done, scan_done, is_ready, passes_check, flip, step_in, collect, step_idle, next_field}
use Rattle.gc_model.specs.Runs.{IsStep}
use Rattle.gc_model.specs.Members.{In}
use Rattle.gc_model.specs.Belonging.{Laid, IsNamed, RefersTo, IsObject, IsSpaceGraph, IsSmall, HasSmallNumbers, HasRawNumbers, IsUnscanned, IsLogged, IsDue, IsScanPlace, HasField, IsOpened, BelongsBy, Belongs, BelongsBut, IsState}
use Rattle.gc_graph.specs.declared.command.Op.{Op}
use Rattle.gc_graph.specs.declared.reply.Reply.{Reply}
use Rattle.gc_graph.specs.declared.reply.Reply.TheVariants.{Full}
use Rattle.gc_model.specs.declared.step.Step.{Step}
use Rattle.gc_model.specs.declared.step.Step.TheVariants as steps
use Rattle.gc_model.specs.declared.step.StepReply.{StepReply}
use Rattle.gc_model.specs.declared.step.StepReply.TheVariants.{Copied, Scanned}
use Rattle.gc_words.proofs.Public.{none_of, some_of}
use Rattle.gc_model.proofs.Lists.{in_left, in_right, in_cases, in_map, in_map_from, in_flat_map, in_get, get_in, get_past, get_within, get_set_same, get_set_other, find_some, find_none}
use Rattle.gc_model.proofs.Heap.{refers_map, laid_range, laid_apart, laid_end, lookup_in}
use Rattle.gc_model.proofs.Commands.{Evolves, unchanged, step_keeps, step_evolves, field_stays, written_there, full_writes_nothing}
use Rattle.gc_model.proofs.Numbers.{step_small, small_corresponding, small_moved}
use Rattle.gc_model.proofs.Replicas.{pair, placed, replicas_end, IsPlace, AreReplicas, HasReplica, refers_corresponding, replicas_evolve, replicas_due, replicas_place, replicas_write, with_written_pair, with_written_length, pairs_written, moved_corresponds, replica_exists}
use Rattle.gc_graph.proofs.Public.{step_roots}

-- ---- what belonging means for replicas

pub its_replicas : (Due : Bool → ℕ → ℕ → ℕ → Type 0) (objects : List (ℕ × Object)) (c : Collection) → BelongsBy Due objects c → AreReplicas objects c.size Due c.replicas
its_replicas Due objects c h = record { laid = h.laid; room = h.room; once = h.once; each = h.replicas }

pub belongs_from : (Due : Bool → ℕ → ℕ → ℕ → Type 0) (objects : List (ℕ × Object)) (c : Collection) → AreReplicas objects c.size Due c.replicas → IsScanPlace c.scan_place c.scan_field c → ((a i : ℕ) → IsLogged c a i → HasField objects a i) → HasRawNumbers objects → BelongsBy Due objects c
belongs_from Due objects c h scan entries numbers = record { laid = h.laid; room = h.room; once = h.once; replicas = h.each; scan = scan; entries = entries; numbers = numbers }

-- a replica placed at the end is not scanned yet
pub due_at_end : (objects : List (ℕ × Object)) (c : Collection) → Belongs objects c → (a i : ℕ) → IsDue c false (replicas_end c.replicas) a i
due_at_end objects c h a i = inl (
  refl,
  ⊎_elim
      (λ s. let range = laid_range 1 (map placed c.replicas) (replicas_end c.replicas) (placed s.0) h.laid (in_map placed s.0 c.replicas s.1) in
      let at = s.2 in inl (omega arith))
      (λ s. let at = s.0 in let zero_field = s.1 in inr ((omega arith), (omega arith)))
      h.scan,
)

due_same : (c next : Collection) (raw : Bool) (p a i : ℕ) → next.logs ≡ c.logs → next.scan_place ≡ c.scan_place → next.scan_field ≡ c.scan_field → IsDue c raw p a i → IsDue next raw p a i
due_same c next raw p a i e f g h = grind (arith, common_steps)

-- ---- more replicas

-- a later collection with more replicas, in which these fields are due
pub record Grown (objects : List (ℕ × Object)) (c : Collection) (Due : Bool → ℕ → ℕ → ℕ → Type 0) (next : Collection) : Type 0 where
  pub size : next.size ≡ c.size
  pub logs : next.logs ≡ c.logs
  pub scan_place : next.scan_place ≡ c.scan_place
  pub scan_field : next.scan_field ≡ c.scan_field
  pub replicas : AreReplicas objects next.size Due next.replicas
  pub pairs : (p : ℕ × ℕ) → In p (map pair c.replicas) → In p (map pair next.replicas)
  pub scan : (place field : ℕ) → IsScanPlace place field c → IsScanPlace place field next

same_grown : (objects : List (ℕ × Object)) (c : Collection) (Due : Bool → ℕ → ℕ → ℕ → Type 0) → AreReplicas objects c.size Due c.replicas → Grown objects c Due c
same_grown objects c Due h = record { size = refl; logs = refl; scan_place = refl; scan_field = refl; replicas = h; pairs = λ p k. k; scan = λ place field k. k }

pub no_replica : (c : Collection) (name : ℕ) (r : Replica) → replica_of c name ≡ None → In r c.replicas → r.original ≡ name → ⊥
no_replica c name r none k e = let f = find_none (λ (s : Replica). s.original == name) c.replicas r none k in eqb-false r.original name f e

-- a name without a replica is not the original of any replica
pub unnamed : (c : Collection) (name : ℕ) → replica_of c name ≡ None → In name (map (λ r. r.original) c.replicas) → ⊥
unnamed c name none k = let r = in_map_from (λ (r : Replica). r.original) name c.replicas k in no_replica c name r.0 none r.1 r.2

pub placing : (objects : List (ℕ × Object)) (c : Collection) (Due : Bool → ℕ → ℕ → ℕ → Type 0) (name : ℕ) (next : Collection)
    → HasRawNumbers objects → AreReplicas objects c.size Due c.replicas → replica_of c name ≡ None → ((a i : ℕ) → Due false (replicas_end c.replicas) a i) → place_replica c name (lookup objects name) ≡ Some next
    → Grown objects c Due next × HasReplica next (Ref name)
placing objects c Due name next numbers h none due is = go (lookup objects name) refl is
  where
    at_room : (o : Object) → lookup objects name ≡ Some o → (b : Bool) → nat_lt (new_free c) (length o.fields + 2) ≡ b
        → cond b None (Some (record c { replicas = c.replicas ++ fresh_replica name (new_end c) o ∷ [] })) ≡ Some next → Grown objects c Due next × HasReplica next (Ref name)
    at_room o found true full k = absurd cc
    at_room o found false full k =
        let new_one : Replica = fresh_replica name (new_end c) o in
        let larger : Collection = record c { replicas = c.replicas ++ new_one ∷ [] } in
        let same : larger ≡ next = cc k in
        let fits : length o.fields + 2 ≤ new_free c = ltb-false (new_free c) (length o.fields + 2) full in
        let room = h.room in
        let ok = replicas_place objects c.size Due c.replicas name o h found (unnamed c name none) (omega arith) (λ v x raw. numbers name o found raw v x) (λ i. due name i) in
        subst (λ d. Grown objects c Due d × HasReplica d (Ref name)) same (
          record {
            size = refl;
            logs = refl;
            scan_place = refl;
            scan_field = refl;
            replicas = ok;
            pairs = λ p k. subst (In p) (sym (map-append pair c.replicas (new_one ∷ []))) (in_left p (map pair c.replicas) (pair new_one ∷ []) k);
            scan = λ place field k. inl (⊎_elim
                (λ s. (s.0, in_left s.0 c.replicas (new_one ∷ []) s.1, s.2, s.3))
                (λ s. (new_one, in_right new_one c.replicas (new_one ∷ []) (inl refl), sym s.0, (let z = s.1 in omega arith)))
                k);
          },
          replica_exists larger new_one (in_right new_one c.replicas (new_one ∷ []) (inl refl)),
        )

    go : (o : Option Object) → lookup objects name ≡ o → place_replica c name o ≡ Some next → Grown objects c Due next × HasReplica next (Ref name)
    go o found k = grind (arith, common_steps, at_room)

replicating : (g : Graph) (c : Collection) (Due : Bool → ℕ → ℕ → ℕ → Type 0) (v : Value) (next : Collection)
    → HasRawNumbers g.objects → AreReplicas g.objects c.size Due c.replicas → ((a i : ℕ) → Due false (replicas_end c.replicas) a i) → with_replica c g v ≡ Some next
    → Grown g.objects c Due next × HasReplica next v
replicating g c Due Nil next numbers h due is = let e : c ≡ next = cc is in (subst (Grown g.objects c Due) e (same_grown g.objects c Due h), tt)
replicating g c Due (Num n) next numbers h due is = let e : c ≡ next = cc is in (subst (Grown g.objects c Due) e (same_grown g.objects c Due h), tt)
replicating g c Due (Ref a) next numbers h due is = go (is_some (replica_of c a)) refl is
  where
    go : (b : Bool) → is_some (replica_of c a) ≡ b → cond b (Some c) (place_replica c a (lookup g.objects a)) ≡ Some next → Grown g.objects c Due next × HasReplica next (Ref a)
    go true t k = grind (arith, common_steps, same_grown, some_of)
    go false f k = placing g.objects c Due a next numbers h (none_of (replica_of c a) f) due k

field_there : (o : Option Object) (i : ℕ) (v : Value) → field_of o i ≡ Some v → (object : Object) × (o ≡ Some object) × (slice_get object.fields i ≡ Some v)
field_there o i v h = grind (arith, common_steps)

-- writing a replica keeps the scan pointer at a replica
scan_written : (name i : ℕ) (w : Value) (c : Collection) (place field : ℕ) → replicas_end (map (with_written name i w) c.replicas) ≡ replicas_end c.replicas → IsScanPlace place field c → IsScanPlace place field (write_replica c name i w)
scan_written name i w c place field ends h = grind (arith, common_steps, in_map, with_written_pair, with_written_length)

-- a field that is up to date is no longer due
pub bringing : (g : Graph) (c : Collection) (Due Due' : Bool → ℕ → ℕ → ℕ → Type 0) (name i : ℕ) (next : Collection)
    → HasRawNumbers g.objects → AreReplicas g.objects c.size Due c.replicas → ((a j : ℕ) → Due false (replicas_end c.replicas) a j)
    → ((raw : Bool) (p a j : ℕ) → Due raw p a j → ((a ≡ name) × (j ≡ i)) ⊎ Due' raw p a j)
    → bring_up_to_date c g name i ≡ Some next
    → Grown g.objects c Due' next
bringing g c Due Due' name i next numbers h due less is = go (field_of (lookup g.objects name) i) refl is
  where
    copied : (v : Value) (o : Object) → lookup g.objects name ≡ Some o → slice_get o.fields i ≡ Some v → (d : Option Collection) → with_replica c g v ≡ d → option_map (λ (d : Collection). write_replica d name i (moved d v)) d ≡ Some next → Grown g.objects c Due' next
    copied v o found at None r k = absurd cc
    copied v o found at (Some c1) r k =
        let one = replicating g c Due v c1 numbers h due r in
        let grown = one.0 in
        let w : Value = moved c1 v in
        let e : write_replica c1 name i w ≡ next = cc k in
        let written_ones = replicas_write g.objects c1.size Due Due' c1.replicas name i o v w grown.replicas found at (moved_corresponds c1 v one.1) less in
        subst (Grown g.objects c Due') e (record {
          size = grown.size;
          logs = grown.logs;
          scan_place = grown.scan_place;
          scan_field = grown.scan_field;
          replicas = written_ones.0;
          pairs = λ p k. subst (In p) (sym (pairs_written name i w c1.replicas)) (grown.pairs p k);
          scan = λ place field k. scan_written name i w c1 place field written_ones.1 (grown.scan place field k);
        })

    go : (f : Option Value) → field_of (lookup g.objects name) i ≡ f → bring_value c g name i f ≡ Some next → Grown g.objects c Due' next
    go None f k =
        let e : c ≡ next = cc k in
        let absent : (r : Replica) → In r c.replicas → (j : ℕ) → j < length r.object.fields → Due r.object.raw r.place r.original j → Due' r.object.raw r.place r.original j = λ r k j within d.
        ⊎_elim
        (λ x. let ok = h.each r k in
        let same_len = ok.len in
        let i_is = x.1 in
        let there = get_within ok.original.fields i (omega arith) in
        absurd (cc (sym f, ap (λ n. field_of (lookup g.objects n) i) (sym x.0), ap (λ o. field_of o i) ok.found, there.1)))
        (λ y. y)
        (less r.object.raw r.place r.original j d) in
        subst (Grown g.objects c Due') e (same_grown g.objects c Due' (replicas_due g.objects c.size Due Due' c.replicas h absent))
    go (Some v) f k = let o = field_there (lookup g.objects name) i v f in copied v o.0 o.1 o.2 (with_replica c g v) refl k

-- ---- the collector's steps

grown_open : (s : State) (c next : Collection) → c.size ≤ 4294967295 → length c.logs ≡ s.mutators → IsScanPlace c.scan_place c.scan_field c → ((a i : ℕ) → IsLogged c a i → HasField s.heap.graph.objects a i) → HasRawNumbers s.heap.graph.objects
    → Grown s.heap.graph.objects c (IsDue c) next → IsOpened s next
grown_open s c next same count scan entries numbers h = record {
  belongs = belongs_from (IsDue next) s.heap.graph.objects next
      (replicas_due s.heap.graph.objects next.size (IsDue c) (IsDue next) next.replicas h.replicas (λ r k i w d. due_same c next r.object.raw r.place r.original i h.logs h.scan_place h.scan_field d))
      (subst (λ p. IsScanPlace p next.scan_field next) (sym h.scan_place) (subst (λ f. IsScanPlace c.scan_place f next) (sym h.scan_field) (h.scan c.scan_place c.scan_field scan)))
      (λ a i d. entries a i (d.0, subst (λ (l : List (List (ℕ × ℕ))). In {X = ℕ × ℕ} (a, i) (unwrap_or (slice_get l d.0) [])) h.logs d.1)) numbers;
  size = subst (λ n. n ≤ 4294967295) (sym h.size) same;
  logs = ap length h.logs ∙ count;
}

-- the state stays well formed with another collection that belongs to it
still_state : (s : State) (o : Option Collection) → IsState s → IfSome o (IsOpened s) → IsState (with_collection s o)
still_state s o h k = grind (arith, common_steps)

room_keeps : (s : State) (reply : StepReply) (o : Option Collection) → IfSome s.collection (IsOpened s) → ((c : Collection) → o ≡ Some c → IsOpened s c) → IfSome (if_room s reply o).1.collection (IsOpened s)
room_keeps s reply o h f = grind (arith, common_steps)

pub unreplicated_some : (c : Collection) (names : List ℕ) (name : ℕ) → find (λ (name : ℕ). is_none (replica_of c name)) names ≡ Some name → (replica_of c name ≡ None) × In name names
unreplicated_some c [] name h = absurd cc
unreplicated_some c (n ∷ names) name h = grind (arith, common_steps, none_of, unreplicated_some c names name)

unreplicated_none : (c : Collection) (names : List ℕ) (name : ℕ) → find (λ (name : ℕ). is_none (replica_of c name)) names ≡ None → In name names → (r : Replica) × (replica_of c name ≡ Some r)
unreplicated_none c [] name h k = absurd k
unreplicated_none c (n ∷ names) name h k = grind (arith, common_steps, some_of, unreplicated_none c names name)

roots_keep : (s : State) (c : Collection) → IfSome s.collection (IsOpened s) → IsOpened s c → IfSome (copy_root s c (root_target c s.heap.graph)).1.collection (IsOpened s)
roots_keep s c h k = go (root_target c s.heap.graph) refl
  where
    go : (t : Option ℕ) → root_target c s.heap.graph ≡ t → IfSome (copy_root s c t).1.collection (IsOpened s)
    go None e = h
    go (Some name) e = room_keeps s Copied (place_replica c name (lookup s.heap.graph.objects name)) h (λ d is.
        grown_open s c d k.size k.logs (k.belongs).scan (k.belongs).entries (k.belongs).numbers
        (placing s.heap.graph.objects c (IsDue c) name d (k.belongs).numbers (its_replicas (IsDue c) s.heap.graph.objects c k.belongs) (unreplicated_some c (flat_map names_of s.heap.graph.roots) name e).0 (due_at_end s.heap.graph.objects c k.belongs) is).0)

-- placing a replica and bringing a field up to date keep the collection belonging to the heap
pub placing_keeps : (s : State) (c next : Collection) (name : ℕ) → IsOpened s c → replica_of c name ≡ None → place_replica c name (lookup s.heap.graph.objects name) ≡ Some next → IsOpened s next
placing_keeps s c next name k none is = grown_open s c next k.size k.logs (k.belongs).scan (k.belongs).entries (k.belongs).numbers
    (placing s.heap.graph.objects c (IsDue c) name next (k.belongs).numbers (its_replicas (IsDue c) s.heap.graph.objects c k.belongs) none (due_at_end s.heap.graph.objects c k.belongs) is).0

pub bringing_keeps : (s : State) (c next : Collection) (name i : ℕ) → IsOpened s c → bring_up_to_date c s.heap.graph name i ≡ Some next → IsOpened s next
bringing_keeps s c next name i k is = grown_open s c next k.size k.logs (k.belongs).scan (k.belongs).entries (k.belongs).numbers
    (bringing s.heap.graph c (IsDue c) (IsDue c) name i next (k.belongs).numbers (its_replicas (IsDue c) s.heap.graph.objects c k.belongs) (due_at_end s.heap.graph.objects c k.belongs) (λ raw p a j d. inr d) is)

-- two replicas at one place are the same
pub same_place : (at : ℕ) (replicas : List Replica) (end : ℕ) (r s : Replica) → Laid at (map placed replicas) end → In r replicas → In s replicas → r.place ≡ s.place → r ≡ s
same_place at [] end r s h k l e = absurd k
same_place at (q ∷ rest) end r s h (inl k) (inl l) e = sym k ∙ l
same_place at (q ∷ rest) end r s h (inl k) (inr l) e = grind (arith, common_steps, laid_range (at + (length q.object.fields + 2)) (map placed rest) end (placed s) h.1 (in_map placed s rest l), h.0, ap (λ (x : Replica). x.place) k)
same_place at (q ∷ rest) end r s h (inr k) (inl l) e = grind (arith, common_steps, laid_range (at + (length q.object.fields + 2)) (map placed rest) end (placed r) h.1 (in_map placed r rest k), h.0, ap (λ (x : Replica). x.place) l)
same_place at (q ∷ rest) end r s h (inr k) (inr l) e = same_place (at + (length q.object.fields + 2)) rest end r s h.1 k l e

-- each replica is followed by the next one, or is the last
next_replica : (at : ℕ) (replicas : List Replica) (end : ℕ) (r : Replica) → Laid at (map placed replicas) end → In r replicas → ((q : Replica) × In q replicas × (q.place ≡ r.place + (length r.object.fields + 2))) ⊎ (r.place + (length r.object.fields + 2) ≡ end)
next_replica at [] end r h k = absurd k
next_replica at (q ∷ []) end r h (inl k) = inr (subst (λ (x : Replica). x.place + (length x.object.fields + 2) ≡ end) k (let a = h.0 in let b : at + (length q.object.fields + 2) ≡ end = h.1 in omega arith))
next_replica at (q ∷ p ∷ rest) end r h (inl k) = inl (p, inr (inl refl), subst (λ (x : Replica). p.place ≡ x.place + (length x.object.fields + 2)) k (let a = h.0 in let b : p.place ≡ at + (length q.object.fields + 2) = (h.1).0 in omega arith))
next_replica at (q ∷ rest) end r h (inr k) = ⊎_elim (λ x. inl (x.0, inr x.1, x.2)) (λ x. inr x) (next_replica (at + (length q.object.fields + 2)) rest end r h.1 k)

passed_open : (s : State) (c : Collection) (r : Replica) → IsOpened s c → In r c.replicas → r.place ≡ c.scan_place → (r.object.raw ≡ true) ⊎ (c.scan_field ≡ length r.object.fields) → IsOpened s (next_object c r)
passed_open s c r k here place done = record {
  belongs = belongs_from (IsDue (next_object c r)) s.heap.graph.objects (next_object c r)
      (replicas_due s.heap.graph.objects c.size (IsDue c) (IsDue (next_object c r)) c.replicas (its_replicas (IsDue c) s.heap.graph.objects c k.belongs) less)
      (⊎_elim (λ x. inl (x.0, x.1, (let e = x.2 in omega arith), omega arith)) (λ x. inr ((omega arith), refl)) (next_replica 1 c.replicas (replicas_end c.replicas) r (k.belongs).laid here))
      (k.belongs).entries (k.belongs).numbers;
  size = k.size;
  logs = k.logs;
}
  where
    unscanned : (q : Replica) (i : ℕ) → (placed r ≡ placed q) ⊎ ((r.place + (length r.object.fields + 2) ≤ q.place) ⊎ (q.place + (length q.object.fields + 2) ≤ r.place)) → q.object.raw ≡ false → i < length q.object.fields → IsUnscanned c q.place i → IsUnscanned (next_object c r) q.place i
    unscanned q i h scanned within u = grind (arith, common_steps)

    less : (q : Replica) → In q c.replicas → (i : ℕ) → i < length q.object.fields → IsDue c q.object.raw q.place q.original i → IsDue (next_object c r) q.object.raw q.place q.original i
    less q l i within (inl (n, u)) = inl (n, unscanned q i (laid_apart 1 (map placed c.replicas) (replicas_end c.replicas) (placed r) (placed q) (k.belongs).laid (in_map placed r c.replicas here) (in_map placed q c.replicas l)) n within u)
    less q l i within (inr d) = inr d

-- the due fields other than this one
abbrev But : (Bool → ℕ → ℕ → ℕ → Type 0) → ℕ → ℕ → Bool → ℕ → ℕ → ℕ → Type 0
But Due name i raw p a j = Due raw p a j × ((a ≡ name) × (j ≡ i) → ⊥)

but_less : (Due : Bool → ℕ → ℕ → ℕ → Type 0) (name i : ℕ) (raw : Bool) (p a j : ℕ) → Due raw p a j → ((a ≡ name) × (j ≡ i)) ⊎ But Due name i raw p a j
but_less Due name i raw p a j d = grind (arith, common_steps, cases_eq)

scanned_open : (s : State) (c : Collection) (r : Replica) (next : Option Collection) (d : Collection) → IsOpened s c → In r c.replicas → r.place ≡ c.scan_place → c.scan_field ≢ length r.object.fields
    → bring_up_to_date c s.heap.graph r.original c.scan_field ≡ next → option_map next_field next ≡ Some d → IsOpened s d
scanned_open s c r None d k here place more is e = absurd cc
scanned_open s c r (Some n) d k here place more is e = subst (IsOpened s) same (record {
  belongs = belongs_from (IsDue n') objects n'
      (replicas_due objects n.size (But (IsDue c) r.original c.scan_field) (IsDue n') n.replicas grown.replicas less)
      (subst (λ p. IsScanPlace p (suc n.scan_field) n) (sym grown.scan_place) (subst (λ f. IsScanPlace c.scan_place (suc f) n) (sym grown.scan_field) (grown.scan c.scan_place (suc c.scan_field) here_next)))
      (λ a i x. (k.belongs).entries a i (x.0, subst (λ (l : List (List (ℕ × ℕ))). In {X = ℕ × ℕ} (a, i) (unwrap_or (slice_get l x.0) [])) grown.logs x.1)) (k.belongs).numbers;
  size = subst (λ n. n ≤ 4294967295) (sym grown.size) k.size;
  logs = ap length grown.logs ∙ k.logs;
})
  where
    objects : List (ℕ × Object)
    objects = s.heap.graph.objects

    n' : Collection
    n' = record n { scan_field = suc n.scan_field }

    same : n' ≡ d
    same = cc e

    grown : Grown objects c (But (IsDue c) r.original c.scan_field) n
    grown = bringing s.heap.graph c (IsDue c) (But (IsDue c) r.original c.scan_field) r.original c.scan_field n (k.belongs).numbers (its_replicas (IsDue c) objects c k.belongs) (due_at_end objects c k.belongs) (but_less (IsDue c) r.original c.scan_field) is

    -- the next field's number is at most the length
    within_here : c.scan_field ≤ length r.object.fields
    within_here = grind (arith, common_steps, same_place, replicas_end)

    here_next : IsScanPlace c.scan_place (suc c.scan_field) c
    here_next = inl (r, here, place, omega (arith, within_here, more))

    -- the replica at the scan pointer is this one
    original_at : (q : Replica) → In q n.replicas → q.place ≡ r.place → q.original ≡ r.original
    original_at q l e = let m = in_map_from pair (pair r) n.replicas (grown.pairs (pair r) (in_map pair r c.replicas here)) in grind (arith, common_steps, same_place, replicas_end, ap (λ (x : ℕ × ℕ). x.1) m.2, ap (λ (x : ℕ × ℕ). x.0) m.2)

    less : (q : Replica) → In q n.replicas → (i : ℕ) → i < length q.object.fields → But (IsDue c) r.original c.scan_field q.object.raw q.place q.original i → IsDue n' q.object.raw q.place q.original i
    less q l i within (inl (b, inl u), not) = inl (b, inl (let p = grown.scan_place in omega arith))
    less q l i within (inl (b, inr u), not) =
        let p = grown.scan_place in let f = grown.scan_field in let x = u.0 in let y = u.1 in
        ⊎_elim
        (λ z. absurd (not (original_at q l (omega arith), sym z)))
        (λ z. inl (b, inr ((omega arith), (omega arith))))
        (cases_eq c.scan_field i)
    less q l i within (inr g, not) = inr (g.0, subst (λ (z : List (List (ℕ × ℕ))). In {X = ℕ × ℕ} (q.original, i) (unwrap_or (slice_get z g.0) [])) (sym grown.logs) g.1)

scan_keeps : (s : State) (c : Collection) → IfSome s.collection (IsOpened s) → IsOpened s c → IfSome (scan s c).1.collection (IsOpened s)
scan_keeps s c h k = cond_both (scan_done c) _ _ (λ (next : StepReply × State). IfSome next.1.collection (IsOpened s)) (λ t. h) (λ t. go (replica_at c c.scan_place) refl)
  where
    go : (t : Option Replica) → replica_at c c.scan_place ≡ t → IfSome (scan_replica s c t).1.collection (IsOpened s)
    go None e = h
    go (Some r) e =
        let f = find_some (λ (q : Replica). q.place == c.scan_place) c.replicas r e in
        let place = eqb-true r.place c.scan_place f.1 in
        cond_both (r.object.raw || (c.scan_field == length r.object.fields)) _ _ (λ (next : StepReply × State). IfSome next.1.collection (IsOpened s))
        (λ t. passed_open s c r k f.0 place (⊎_elim (λ x. inl x) (λ x. inr (eqb-true c.scan_field (length r.object.fields) x)) (or_cases r.object.raw (c.scan_field == length r.object.fields) t)))
        (λ t. room_keeps s Scanned (option_map next_field (bring_up_to_date c s.heap.graph r.original c.scan_field)) h (λ d is. scanned_open s c r (bring_up_to_date c s.heap.graph r.original c.scan_field) d k f.0 place (eqb-false c.scan_field (length r.object.fields) (or_parts r.object.raw (c.scan_field == length r.object.fields) t).1) refl is))

-- an entry of the logs is the one taken out, or still in a log
entry_out : (logs : List (List (ℕ × ℕ))) (m : ℕ) (entry : ℕ × ℕ) (rest : List (ℕ × ℕ)) (a j k : ℕ) → unwrap_or (slice_get logs m) [] ≡ entry ∷ rest → In {X = ℕ × ℕ} (a, j) (unwrap_or (slice_get logs k) [])
    → ((a ≡ entry.0) × (j ≡ entry.1)) ⊎ In {X = ℕ × ℕ} (a, j) (unwrap_or (slice_get (set logs m rest) k) [])
entry_out logs m entry rest a j k is d = grind (arith, common_steps, get_set_same, get_set_other, cases_eq, get_past)

-- every entry that is left was there before
entry_was : (logs : List (List (ℕ × ℕ))) (m : ℕ) (entry : ℕ × ℕ) (rest : List (ℕ × ℕ)) (p : ℕ × ℕ) (k : ℕ) → unwrap_or (slice_get logs m) [] ≡ entry ∷ rest → In p (unwrap_or (slice_get (set logs m rest) k) []) → In p (unwrap_or (slice_get logs k) [])
entry_was logs m entry rest p k is d = grind (arith, common_steps, get_set_same, get_set_other, cases_eq, get_past)

applied_open : (s : State) (c : Collection) (m : ℕ) (entry : ℕ × ℕ) (rest : List (ℕ × ℕ)) (d : Collection) → IsOpened s c → log_at c m ≡ entry ∷ rest
    → apply_entry (with_log c m rest) s.heap.graph entry ≡ Some d → IsOpened s d
applied_open s c m entry rest d k is e = go (is_some (replica_of c entry.0)) refl e
  where
    objects : List (ℕ × Object)
    objects = s.heap.graph.objects

    c' : Collection
    c' = with_log c m rest

    its : AreReplicas objects c.size (IsDue c) c.replicas
    its = its_replicas (IsDue c) objects c k.belongs

    less : (raw : Bool) (p a j : ℕ) → IsDue c raw p a j → ((a ≡ entry.0) × (j ≡ entry.1)) ⊎ IsDue c' raw p a j
    less raw p a j (inl u) = inr (inl u)
    less raw p a j (inr x) = ⊎_elim (λ y. inl y) (λ y. inr (inr (x.0, y))) (entry_out c.logs m entry rest a j x.0 is x.1)

    done : Grown objects c' (IsDue c') d → IsOpened s d
    done g = grown_open s c' d k.size (length-set c.logs m rest ∙ k.logs) (k.belongs).scan (λ a i x. (k.belongs).entries a i (x.0, entry_was c.logs m entry rest (a, i) x.0 is x.1)) (k.belongs).numbers g

    go : (b : Bool) → is_some (replica_of c entry.0) ≡ b → cond b (bring_up_to_date c' s.heap.graph entry.0 entry.1) (Some c') ≡ Some d → IsOpened s d
    go true t f = done (bringing s.heap.graph c' (IsDue c) (IsDue c') entry.0 entry.1 d (k.belongs).numbers its (due_at_end objects c k.belongs) less f)
    go false t f =
        let same : c' ≡ d = cc f in
        done (subst (Grown objects c' (IsDue c')) same (same_grown objects c' (IsDue c')
        (replicas_due objects c.size (IsDue c) (IsDue c') c.replicas its (λ r l i within x. ⊎_elim (λ y. absurd (no_replica c entry.0 r (none_of (replica_of c entry.0) t) l y.0)) (λ y. y) (less r.object.raw r.place r.original i x)))))

-- ---- the flip

-- the target of each root has a replica
pub roots_replicated : (c : Collection) (g : Graph) → roots_done c g ≡ true → (v : Value) → In v g.roots → HasReplica c v
roots_replicated c g done Nil k = tt
roots_replicated c g done (Num n) k = tt
roots_replicated c g done (Ref a) k =
    unreplicated_none c (flat_map names_of g.roots) a (none_of (root_target c g) (not-true (is_some (root_target c g)) done)) (in_flat_map names_of (Ref a) a g.roots k (inl refl))

pub place_named : (c : Collection) (b : ℕ) → IsPlace (map pair c.replicas) b → IsNamed (map placed c.replicas) b
place_named c b h =
    let r = in_map_from pair (h.0, b) c.replicas h.1 in
    (r.0.object, subst (λ n. In {X = ℕ × Object} (n, r.0.object) (map placed c.replicas)) (ap (λ (p : ℕ × ℕ). p.1) r.2) (in_map placed r.0 c.replicas r.1))

empty_log : (logs : List (List (ℕ × ℕ))) → list_all is_empty logs ≡ true → (k : ℕ) → unwrap_or (slice_get logs k) [] ≡ []
empty_log [] h k = refl
empty_log ([] ∷ logs) h zero = refl
empty_log ([] ∷ logs) h (suc k) = empty_log logs h k
empty_log ((e ∷ log) ∷ logs) h k = absurd cc

-- a collection that is ready
pub record IsReady (g : Graph) (c : Collection) : Type 0 where
  pub logs : list_all is_empty c.logs ≡ true
  pub scan : c.scan_place ≡ new_end c
  pub roots : roots_done c g ≡ true

pub ready_parts : (c : Collection) (g : Graph) → is_ready c g ≡ true → IsReady g c
ready_parts c g h = grind (arith, common_steps, and_parts)

-- nothing is due in a ready collection
pub none_due : (objects : List (ℕ × Object)) (g : Graph) (c : Collection) (r : Replica) (i : ℕ) → Belongs objects c → IsReady g c → In r c.replicas → IsDue c r.object.raw r.place r.original i → ⊥
none_due objects g c r i h ready l (inl (n, u)) = grind (arith, common_steps, laid_range 1 (map placed c.replicas) (replicas_end c.replicas) (placed r) h.laid (in_map placed r c.replicas l), ready.scan)
none_due objects g c r i h ready l (inr d) = subst (In {X = ℕ × ℕ} (r.original, i)) (empty_log c.logs ready.logs d.0) d.1

-- so each field of a replica corresponds to its original's
pub replica_field : (g : Graph) (c : Collection) → (k : Belongs g.objects c) → IsReady g c → (r : Replica) → (l : In r c.replicas) → (w : Value) → In w r.object.fields
    → (v : Value) × In v (k.replicas r l).original.fields × (correspond (pairs_of c) v w ≡ true)
replica_field g c k ready r l w x =
    let ok = k.replicas r l in
    let i = in_get w r.object.fields x in
    let within = get_past r.object.fields i.0 w i.1 in
    let same_len = ok.len in
    let v = get_within ok.original.fields i.0 (omega arith) in (
      v.0,
      get_in v.0 ok.original.fields i.0 v.1,
      ⊎_elim
          (λ d. absurd (none_due g.objects g c r i.0 k ready l d))
          (λ e. e)
          (ok.current i.0 v.0 w v.1 i.1),
    )

-- each field of a replica refers to a place in the new space
pub replica_refers : (size free : ℕ) (g : Graph) (c : Collection) → IsSpaceGraph size free g → Belongs g.objects c → IsReady g c → (r : Replica) → In r c.replicas → (w : Value) → In w r.object.fields → RefersTo (IsPlace (pairs_of c)) w
replica_refers size free g c h k ready r l w x =
    let ok = k.replicas r l in
    let f = replica_field g c k ready r l w x in
    refers_corresponding (IsNamed g.objects) (pairs_of c) f.0 w ((h.objects r.original ok.original (lookup_in g.objects r.original ok.original ok.found)).fields f.0 f.1) f.2

-- a value that corresponds to a number is a number
number_corresponding : (pairs : List (ℕ × ℕ)) (v w : Value) → is_number v ≡ true → correspond pairs v w ≡ true → is_number w ≡ true
number_corresponding pairs v w n h = grind (arith, common_steps)

new_small : (g : Graph) (c : Collection) → HasSmallNumbers g → Belongs g.objects c → IsReady g c → HasSmallNumbers (new_graph c g.roots)
new_small g c h k ready = record {
  fields = λ a o l w x.
      let r = in_map_from placed (a, o) c.replicas l in
      let ok = k.replicas r.0 r.1 in
      let f = replica_field g c k ready r.0 r.1 w (subst (λ (e : ℕ × Object). In w e.1.fields) (sym r.2) x) in
      small_corresponding (pairs_of c) f.0 w f.2 (h.fields r.0.original ok.original (lookup_in g.objects r.0.original ok.original ok.found) f.0 f.1);
  roots = λ w l. let r = in_map_from (moved c) w g.roots l in subst IsSmall r.2 (small_moved c r.0 (h.roots r.0 r.1));
}

pub new_heap : (size free : ℕ) (g : Graph) (c : Collection) → IsSpaceGraph size free g → Belongs g.objects c → c.size ≤ 4294967295 → IsReady g c → IsSpaceGraph c.size (new_free c) (new_graph c g.roots)
new_heap size free g c h k same ready = record {
  high = same;
  room = let y = k.room in let z = laid_end 1 (map placed c.replicas) (replicas_end c.replicas) k.laid in omega arith;
  laid = let fits = k.room in let e : replicas_end c.replicas ≡ c.size - new_free c = omega arith in subst (Laid 1 (map placed c.replicas)) e k.laid;
  objects = λ a o l. let r = in_map_from placed (a, o) c.replicas l in subst (λ (e : ℕ × Object). IsObject (map placed c.replicas) e.1) r.2 (object r.0 r.1);
  roots = λ w l. let r = in_map_from (moved c) w g.roots l in
      subst (RefersTo (IsNamed (map placed c.replicas))) r.2
      (refers_map (IsPlace (pairs_of c)) (IsNamed (map placed c.replicas)) (place_named c) (moved c r.0)
      (refers_corresponding (IsNamed g.objects) (pairs_of c) r.0 (moved c r.0) (h.roots r.0 r.1) (moved_corresponds c r.0 (roots_replicated c g ready.roots r.0 r.1))));
  numbers = λ a o l raw w x.
      let r = in_map_from placed (a, o) c.replicas (lookup_in (map placed c.replicas) a o l) in
      let ok = k.replicas r.0 r.1 in
      let f = replica_field g c k ready r.0 r.1 w (subst (λ (e : ℕ × Object). In w e.1.fields) (sym r.2) x) in
      let was : ok.original.raw ≡ true = sym ok.raw ∙ (ap (λ (e : ℕ × Object). e.1.raw) r.2 ∙ raw) in
      number_corresponding (pairs_of c) f.0 w (h.numbers r.0.original ok.original ok.found was f.0 f.1) f.2;
}
  where
    object : (r : Replica) → In r c.replicas → IsObject (map placed c.replicas) r.object
    object r l =
        let ok = k.replicas r l in
        let was = h.objects r.original ok.original (lookup_in g.objects r.original ok.original ok.found) in record {
          kind = subst (λ n. n < 256) (sym ok.kind) was.kind;
          len = subst (λ n. n < 65536) (sym ok.len) was.len;
          fields = λ v x. refers_map (IsPlace (pairs_of c)) (IsNamed (map placed c.replicas)) (place_named c) v (replica_refers size free g c h k ready r l v x);
        }

flip_keeps : (s : State) (c : Collection) → IsState s → IsOpened s c → IsState (flip s c).1
flip_keeps s c h k =
    cond_both (is_ready c s.heap.graph) _ _ (λ (next : StepReply × State). IsState next.1)
    (λ t. cond_both (passes_check s c) _ _ (λ (next : StepReply × State). IsState next.1)
    (λ u. record { heap = new_heap s.size s.heap.free s.heap.graph c h.heap k.belongs k.size (ready_parts c s.heap.graph t); numbers = new_small s.heap.graph c h.numbers k.belongs (ready_parts c s.heap.graph t); roots = omega (arith, length-map s.heap.graph.roots (moved c), h.roots); collection = tt })
    (λ u. h))
    (λ t. h)

-- ---- all events

logged_none : (m a i k : ℕ) → In {X = ℕ × ℕ} (a, i) (unwrap_or (slice_get (replicate m []) k) []) → ⊥
logged_none zero a i k x = x
logged_none (suc m) a i zero x = x
logged_none (suc m) a i (suc k) x = logged_none m a i k x

pub begun_belongs : (objects : List (ℕ × Object)) (mutators size : ℕ) → HasRawNumbers objects → 1 ≤ size → Belongs objects (fresh_collection mutators size)
begun_belongs objects mutators size numbers low = grind (arith, common_steps, logged_none)

fresh_open : (s : State) (size : ℕ) → HasRawNumbers s.heap.graph.objects → 1 ≤ size → size ≤ 4294967295 → IsOpened s (fresh_collection s.mutators size)
fresh_open s size numbers low high = record { belongs = begun_belongs s.heap.graph.objects s.mutators size numbers low; size = high; logs = length-replicate s.mutators [] }

-- a step of an open collection keeps it belonging to the heap
pub open_keeps : (s : State) (c : Collection) (step : Step) → s.collection ≡ Some c → IsOpened s c → step ≢ steps.Flip → IfSome (step_in s c step).1.collection (IsOpened s)
open_keeps s c step is k other = grind (arith, common_steps, roots_keep, scan_keeps, room_keeps, applied_open)

-- a step other than a flip changes only the collection
abbrev Stays : State → StepReply × State → Type 0
Stays s next = next.1 ≡ with_collection s next.1.collection

pub steps_stay : (s : State) (step : Step) → step ≢ steps.Flip → Stays s (collect s step)
steps_stay s step other = grind (arith, common_steps, cond_both)

pub collect_keeps : (s : State) (step : Step) → IsState s → IsStep s.mutators step → IsState (collect s step).1
collect_keeps s step h range = go s.collection refl step range h.collection
  where
    quiet : (c : Collection) (step : Step) → s.collection ≡ Some c → IsOpened s c → step ≢ steps.Flip → IsState (step_in s c step).1
    quiet c step is k n = grind (arith, common_steps, still_state, open_keeps, subst (λ o. Stays s (option_map_or (λ (c : Collection). step_in s c step) o (step_idle s step))) is (steps_stay s step n))

    go : (o : Option Collection) → s.collection ≡ o → (step : Step) → IsStep s.mutators step → IfSome o (IsOpened s) → IsState (option_map_or (λ (c : Collection). step_in s c step) o (step_idle s step)).1
    go None is steps.Begin range k = still_state s (Some (fresh_collection s.mutators s.size)) h (fresh_open s s.size (h.heap).numbers (let x = (h.heap).room in omega arith) (h.heap).high)
    go None is (steps.BeginSized size) range k = still_state s (Some (fresh_collection s.mutators size)) h (fresh_open s size (h.heap).numbers range.0 range.1)
    go None is steps.Roots range k = h
    go None is steps.Scan range k = h
    go None is (steps.Apply m) range k = h
    go None is steps.Flip range k = h
    go None is steps.Drop range k = h
    go (Some c) is steps.Begin range k = h
    go (Some c) is (steps.BeginSized size) range k = h
    go (Some c) is steps.Roots range k = quiet c steps.Roots is k (λ e. cc e)
    go (Some c) is steps.Scan range k = quiet c steps.Scan is k (λ e. cc e)
    go (Some c) is (steps.Apply m) range k = quiet c (steps.Apply m) is k (λ e. cc e)
    go (Some c) is steps.Flip range k = flip_keeps s c h k
    go (Some c) is steps.Drop range k = quiet c steps.Drop is k (λ e. cc e)

-- after a command the collection belongs to the heap except for the field written
pub belongs_but : (before later : List (ℕ × Object)) (c : Collection) (E : ℕ → ℕ → Type 0) → Belongs before c → Evolves before later E → HasRawNumbers later → BelongsBut E later c
belongs_but before later c E h evolves numbers = belongs_from (λ raw p a i. IsDue c raw p a i ⊎ E a i) later c
    (replicas_evolve before later c.size (IsDue c) (λ raw p a i. IsDue c raw p a i ⊎ E a i) E c.replicas (its_replicas (IsDue c) before c h) evolves (λ raw p a i d. inl d) (λ raw p a i x. inr x))
    h.scan
    (λ a i x. field_stays before later E a i evolves (h.entries a i x))
    numbers

-- logging those fields makes the collection belong to the heap again
pub belongs_noted : (objects : List (ℕ × Object)) (c : Collection) (m : ℕ) (entries : List (ℕ × ℕ)) → m < length c.logs → BelongsBut (λ a i. In {X = ℕ × ℕ} (a, i) entries) objects c
    → ((a i : ℕ) → In {X = ℕ × ℕ} (a, i) entries → HasField objects a i) → Belongs objects (with_log c m (log_at c m ++ entries))
belongs_noted objects c m entries within h there = belongs_from (IsDue c') objects c'
    (replicas_due objects c.size (λ raw p a i. IsDue c raw p a i ⊎ In {X = ℕ × ℕ} (a, i) entries) (IsDue c') c.replicas (its_replicas (λ raw p a i. IsDue c raw p a i ⊎ In {X = ℕ × ℕ} (a, i) entries) objects c h) (λ r l i w d. weaker r.object.raw r.place r.original i d))
    h.scan
    (λ a i x. ⊎_elim (λ y. h.entries a i (x.0, y)) (λ y. there a i y) (logged_was a i x.0 x.1))
    h.numbers
  where
    c' : Collection
    c' = with_log c m (log_at c m ++ entries)

    at_m : (p : ℕ × ℕ) → In p (log_at c m ++ entries) → In p (log_at c' m)
    at_m p x = subst (λ o. In p (unwrap_or o [])) (sym (get_set_same c.logs m (log_at c m ++ entries) within)) x

    weaker : (raw : Bool) (p a i : ℕ) → IsDue c raw p a i ⊎ In {X = ℕ × ℕ} (a, i) entries → IsDue c' raw p a i
    weaker raw p a i (inl (inl u)) = inl u
    weaker raw p a i (inl (inr d)) = inr (⊎_elim
        (λ e. (m, at_m (a, i) (in_left (a, i) (log_at c m) entries (subst (λ n. In {X = ℕ × ℕ} (a, i) (log_at c n)) e d.1))))
        (λ n. (d.0, subst (λ o. In {X = ℕ × ℕ} (a, i) (unwrap_or o [])) (sym (get_set_other c.logs m d.0 (log_at c m ++ entries) n)) d.1))
        (cases_eq d.0 m))
    weaker raw p a i (inr x) = inr (m, at_m (a, i) (in_right (a, i) (log_at c m) entries x))

    logged_was : (a i k : ℕ) → In {X = ℕ × ℕ} (a, i) (log_at c' k) → In {X = ℕ × ℕ} (a, i) (log_at c k) ⊎ In {X = ℕ × ℕ} (a, i) entries
    logged_was a i k x = grind (arith, common_steps, in_cases, get_set_same, get_set_other)

-- the fields that a command wrote are logged
logged_open : (s t : State) (o : Option Collection) (m : ℕ) (entries : List (ℕ × ℕ)) → t.size ≡ s.size → t.mutators ≡ s.mutators → m < s.mutators → IfSome o (IsOpened s) → HasRawNumbers t.heap.graph.objects → Evolves s.heap.graph.objects t.heap.graph.objects (λ a j. In {X = ℕ × ℕ} (a, j) entries)
    → ((a j : ℕ) → In {X = ℕ × ℕ} (a, j) entries → HasField s.heap.graph.objects a j) → IfSome (logged o m entries) (IsOpened t)
logged_open s t None m entries size count l k numbers evolves there = tt
logged_open s t (Some c) m entries size count l k numbers evolves there = record {
  belongs = belongs_noted t.heap.graph.objects c m entries (let e = k.logs in omega arith) (belongs_but s.heap.graph.objects t.heap.graph.objects c (λ a j. In {X = ℕ × ℕ} (a, j) entries) k.belongs evolves numbers)
      (λ a i x. field_stays s.heap.graph.objects t.heap.graph.objects (λ a j. In {X = ℕ × ℕ} (a, j) entries) a i evolves (there a i x));
  size = k.size;
  logs = length-set c.logs m (log_at c m ++ entries) ∙ (k.logs ∙ sym count);
}

-- a command of the texts is one
pub ranged : (op : Op) → IsCommand op → HasRange op
ranged op r = grind (arith, common_steps)

pub mutate_keeps : (s : State) (m : ℕ) (op : Op) → IsState s → m < s.mutators → HasRange op → IsState (mutate s m op).1
mutate_keeps s m op h l r =
    cond_both (nat_lt s.heap.free (words_taken op)) _ _ P
    (λ full. record { heap = h.heap; numbers = h.numbers; roots = h.roots; collection = logged_open s (at (Full, s.heap)) s.collection m (written s.heap.graph m op Full) refl refl l h.collection (h.heap).numbers (unchanged s.heap.graph.objects _) (λ a j x. absurd (full_writes_nothing s.heap.graph m op a j x)) })
    (λ fits.
    let next = step s.heap.graph m op (heap_end s) in
    let heap = step_keeps s.size s.heap.free s.heap.graph m op (heap_end s) h.heap r (ltb-false s.heap.free (words_taken op) fits) refl in
    record { heap = heap; numbers = step_small s.heap.graph m op (heap_end s) h.numbers r; roots = omega (arith, step_roots s.heap.graph m op (heap_end s), h.roots); collection = logged_open s (at (next.0, record { graph = next.1; free = s.heap.free - words_taken op })) s.collection m (written s.heap.graph m op next.0) refl refl l h.collection heap.numbers (step_evolves s.heap.graph m op (heap_end s)) (λ a j x. written_there s.heap.graph m op (heap_end s) a j x) })
  where
    at : Reply × Roomy → State
    at next = record s { heap = next.1; collection = logged s.collection m (written s.heap.graph m op next.0) }

    P : Reply × Roomy → Type 0
    P next = IsState (at next)
