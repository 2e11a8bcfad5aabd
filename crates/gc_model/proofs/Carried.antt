-- Only what was reachable when a collection began, or was made later, gets a replica.
use Rattle.std.proofs.lemmas.Grind.{common_steps}
use Rattle.std.proofs.Common.{◌≡◌, inl, inr, ⊎_elim, ℕ, ◌-◌, ◌≤◌, ◌==◌, Bool, true, false, cond, ◌&&◌, ◌||◌, List, [], ◌∷◌, ◌++◌, length, Option, Some, None, is_some, slice_get, flat_map, refl, ap, sym, ◌∙◌, subst, arith}
use Rattle.std.specs.Prelude.{not}
use Rattle.std.specs.Option.{option_map, option_map_or}
use Rattle.std.proofs.lemmas.Bool.{cond_both}
use Rattle.gc_graph.specs.Graph.{Value, Nil, Num, Ref, Object, Graph, lookup, object_of, field_of, root, follow, Reachable, names_of, set_root, first_value, new_object, add_object}
use Rattle.gc_graph.specs.Machine.{step, get_field, is_number, put_field}
use Rattle.gc_model.specs.State.{Replica, Collection, State, opening_state, heap_end, replica_of, replica_at, pairs_of, moved}
use Rattle.gc_model.specs.Steps.{mutate, log_at, with_log, place_replica, with_replica, with_written, write_replica, bring_value, bring_up_to_date, if_room, root_target, copy_root, scan_done, scan_replica, apply_entry, apply_log, is_ready, passes_check, step_in, step_idle, next_field}
use Rattle.gc_model.specs.Runs.{IsRootEvent, AreRootEvents, after, state_after}
use Rattle.gc_model.specs.declared.event.Event.{Event}
use Rattle.gc_model.specs.declared.event.Event.TheVariants.{Mutate, Collect}
use Rattle.gc_model.specs.Carried.{is_begun, base_after, base_of_run, IsLiveSince, CarriesOnlyLive, CarriesOnlyLiveFrom, LeadsOnlyTo, OnlyLiveIsNamed, NamesOnlyLive, OnlyLiveIsPaired}
use Rattle.gc_model.specs.Members.{In}
use Rattle.gc_model.specs.Belonging.{RefersTo, IsState}
use Rattle.gc_graph.specs.declared.command.Op.{Op}
use Rattle.gc_graph.specs.declared.command.Op.TheVariants as ops
use Rattle.gc_graph.specs.Slots.{place}
use Rattle.gc_graph.specs.declared.reply.Reply.{Reply}
use Rattle.gc_model.specs.declared.step.Step.{Step}
use Rattle.gc_model.specs.declared.step.Step.TheVariants as steps
use Rattle.gc_model.specs.declared.step.StepReply.{StepReply}
use Rattle.gc_model.specs.declared.step.StepReply.TheVariants.{Busy, Clean, NotReady, Refused, Copied, Scanned, Applied}
use Rattle.gc_model.proofs.Lists.{in_push, in_map_from, in_flat_map_from, in_set, in_replicate, in_get, get_in, find_some, all_from_in}
use Rattle.gc_model.proofs.Heap.{laid_range, lookup_in, lookup_laid, set_from, written_entry, written_in}
use Rattle.gc_model.proofs.Replicas.{pair, replica_in}
use Rattle.gc_model.proofs.Steps.{unreplicated_some}
use Rattle.gc_model.proofs.Runs.{Reached, opening_ok, root_event_keeps, root_events}
use Rattle.gc_words.proofs.Public.{some_of}

-- ---- commands

root_refers : (P : ℕ → Type 0) (g : Graph) (p : ℕ) → LeadsOnlyTo P g → RefersTo P (root g p)
root_refers P g p h = grind (arith, common_steps, get_in)

field_refers : (P : ℕ → Type 0) (g : Graph) (v : Value) (i : ℕ) (w : Value) → LeadsOnlyTo P g → RefersTo P v → field_of (object_of g.objects v) i ≡ Some w → RefersTo P w
field_refers P g Nil i w h r e = absurd cc
field_refers P g (Num n) i w h r e = absurd cc
field_refers P g (Ref a) i w h r e = go (lookup g.objects a) refl e
  where
    go : (o : Option Object) → lookup g.objects a ≡ o → field_of o i ≡ Some w → RefersTo P w
    go None k l = absurd cc
    go (Some o) k l = h.fields a o (lookup_in g.objects a o k) r w (get_in w o.fields i l)

root_closed : (P : ℕ → Type 0) (g : Graph) (d : ℕ) (v : Value) → LeadsOnlyTo P g → RefersTo P v → LeadsOnlyTo P (set_root g d v)
root_closed P g d v h r = record { roots = λ w k. ⊎_elim (λ e. subst (RefersTo P) e r) (h.roots w) (in_set w g.roots d v k); fields = h.fields }

get_closed : (P : ℕ → Type 0) (g : Graph) (d : ℕ) (target : Option Object) (found : Option Value) → LeadsOnlyTo P g → ((v : Value) → found ≡ Some v → RefersTo P v) → LeadsOnlyTo P (get_field g d target found).1
get_closed P g d target found h f = grind (arith, common_steps, root_closed)

put_closed : (P : ℕ → Type 0) (g : Graph) (v : Value) (target : Option Object) (found : Option Value) (i : ℕ) (w : Value) → LeadsOnlyTo P g → RefersTo P w → LeadsOnlyTo P (put_field g v target found i w).1
put_closed P g Nil target found i w h r = h
put_closed P g (Num n) target found i w h r = h
put_closed P g (Ref a) None found i w h r = h
put_closed P g (Ref a) (Some o) None i w h r = h
put_closed P g (Ref a) (Some o) (Some before) i w h r = cond_both (o.raw && not (is_number w)) _ _ (λ (next : Reply × Graph). LeadsOnlyTo P next.1) (λ t. h) (λ t. record {
  roots = h.roots;
  fields = λ b q k p x l.
      let e = set_from a i w g.objects (b, q) k in
      ⊎_elim
      (λ same. h.fields b q (subst (λ (z : ℕ × Object). In z g.objects) same e.1) p x l)
      (λ is.
      let name : e.0.0 ≡ b = ap (λ (z : ℕ × Object). z.0) is in
      let there : In x (written_entry a i w e.0).1.fields = subst (λ (z : ℕ × Object). In x z.1.fields) (sym is) l in
      ⊎_elim (λ y. subst (RefersTo P) y r) (h.fields e.0.0 e.0.1 e.1 (subst P (sym name) p) x) (written_in a i w e.0 x there))
      e.2;
})

new_closed : (P : ℕ → Type 0) (g : Graph) (raw : Bool) (d kind len name : ℕ) → LeadsOnlyTo P g → P name → LeadsOnlyTo P (set_root (add_object g name (new_object raw kind len)) d (Ref name))
new_closed P g raw d kind len name h p = record {
  roots = λ w k. ⊎_elim (λ e. subst (RefersTo P) e p) (h.roots w) (in_set w g.roots d (Ref name) k);
  fields = λ a o k q v l. ⊎_elim
      (λ x. h.fields a o x q v l)
      (λ x. subst (RefersTo P) (in_replicate v (first_value raw) len (subst (λ (z : ℕ × Object). In v z.1.fields) (sym x) l)) (first_refers raw))
      (in_push (a, o) (name, new_object raw kind len) g.objects k);
}
  where
    first_refers : (b : Bool) → RefersTo P (first_value b)
    first_refers b = grind (arith, common_steps)

step_closed : (P : ℕ → Type 0) (g : Graph) (m : ℕ) (op : Op) (name : ℕ) → LeadsOnlyTo P g → P name → LeadsOnlyTo P (step g m op name).1
step_closed P g m (ops.Get d s i) name h p = get_closed P g (place d m) _ _ h (λ w. field_refers P g (root g (place s m)) i w h (root_refers P g (place s m) h))
step_closed P g m op name h p = grind (arith, common_steps, new_closed, root_closed, root_refers, put_closed)

-- ---- replicas

abbrev Originals : (ℕ → Type 0) → List Replica → Type 0
Originals P replicas = (r : Replica) → In r replicas → P r.original

place_originals : (P : ℕ → Type 0) (c next : Collection) (name : ℕ) (o : Option Object) → Originals P c.replicas → P name → place_replica c name o ≡ Some next → Originals P next.replicas
place_originals P c next name o h p e = grind (arith, common_steps, in_push)

with_originals : (P : ℕ → Type 0) (c next : Collection) (g : Graph) (v : Value) → Originals P c.replicas → RefersTo P v → with_replica c g v ≡ Some next → Originals P next.replicas
with_originals P c next g Nil h p e = let same : c ≡ next = cc e in subst (λ (d : Collection). Originals P d.replicas) same h
with_originals P c next g (Num n) h p e = let same : c ≡ next = cc e in subst (λ (d : Collection). Originals P d.replicas) same h
with_originals P c next g (Ref a) h p e = go (is_some (replica_of c a)) e
  where
    go : (b : Bool) → cond b (Some c) (place_replica c a (lookup g.objects a)) ≡ Some next → Originals P next.replicas
    go true e = let same : c ≡ next = cc e in subst (λ (d : Collection). Originals P d.replicas) same h
    go false e = place_originals P c next a (lookup g.objects a) h p e

with_written_original : (name i : ℕ) (w : Value) (r : Replica) → (with_written name i w r).original ≡ r.original
with_written_original name i w r = cond_both (r.original == name) _ _ (λ (q : Replica). q.original ≡ r.original) (λ t. refl) (λ t. refl)

bring_originals : (P : ℕ → Type 0) (c next : Collection) (g : Graph) (name i : ℕ) → LeadsOnlyTo P g → Originals P c.replicas → P name → bring_up_to_date c g name i ≡ Some next → Originals P next.replicas
bring_originals P c next g name i closed h p e = go (field_of (lookup g.objects name) i) refl e
  where
    copied : (v : Value) (d : Option Collection) → with_replica c g v ≡ d → RefersTo P v → option_map (λ (d : Collection). write_replica d name i (moved d v)) d ≡ Some next → Originals P next.replicas
    copied v None is r e = absurd cc
    copied v (Some d) is r e =
        let same : write_replica d name i (moved d v) ≡ next = cc e in
        let was = with_originals P c d g v h r is in
        subst (λ (x : Collection). Originals P x.replicas) same (λ q k. let o = in_map_from (with_written name i (moved d v)) q d.replicas k in
        subst (λ (x : Replica). P x.original) o.2 (subst P (sym (with_written_original name i (moved d v) o.0)) (was o.0 o.1)))

    go : (f : Option Value) → field_of (lookup g.objects name) i ≡ f → bring_value c g name i f ≡ Some next → Originals P next.replicas
    go None f e = let same : c ≡ next = cc e in subst (λ (d : Collection). Originals P d.replicas) same h
    go (Some v) f e = copied v (with_replica c g v) refl (field_refers P g (Ref name) i v closed p f) e

-- ---- steps in an open collection

abbrev CarriesIn : (ℕ → Type 0) → ℕ → State → Option Collection → Type 0
CarriesIn P end s None = Unit {0}
CarriesIn P end s (Some c) = LeadsOnlyTo P s.heap.graph × Originals P c.replicas × (end ≤ heap_end s)

abbrev Quiet : (ℕ → Type 0) → ℕ → StepReply × State → Type 0
Quiet P end next = (is_begun next.0 ≡ false) × CarriesIn P end next.1 next.1.collection

module _ (P : ℕ → Type 0) (end : ℕ) (s : State) where
  in_room : (c : Collection) (reply : StepReply) (o : Option Collection) → s.collection ≡ Some c → is_begun reply ≡ false → CarriesIn P end s (Some c) → ((d : Collection) → o ≡ Some d → Originals P d.replicas) → Quiet P end (if_room s reply o)
  in_room c reply o is quiet h f = grind (arith, common_steps)

  same_quiet : (c : Collection) (reply : StepReply) → s.collection ≡ Some c → is_begun reply ≡ false → CarriesIn P end s (Some c) → Quiet P end (reply, s)
  same_quiet c reply is quiet h = (quiet, subst (CarriesIn P end s) (sym is) h)

  open_quiet : (c : Collection) (step : Step) → s.collection ≡ Some c → CarriesIn P end s (Some c) → Quiet P end (option_map_or (λ (c : Collection). step_in s c step) (Some c) (step_idle s step))
  open_quiet c steps.Begin is h = same_quiet c Busy is refl h
  open_quiet c (steps.BeginSized size) is h = same_quiet c Busy is refl h
  open_quiet c steps.Roots is h = go (root_target c s.heap.graph) refl
    where
      name_refers : (v : Value) (name : ℕ) → RefersTo P v → In name (names_of v) → P name
      name_refers v name r k = grind (arith, common_steps)

      go : (t : Option ℕ) → root_target c s.heap.graph ≡ t → Quiet P end (copy_root s c t)
      go None e = same_quiet c Clean is refl h
      go (Some name) e =
          let v = in_flat_map_from names_of name s.heap.graph.roots (unreplicated_some c (flat_map names_of s.heap.graph.roots) name e).1 in
          in_room c Copied (place_replica c name (lookup s.heap.graph.objects name)) is refl h (λ d x.
          place_originals P c d name (lookup s.heap.graph.objects name) h.1 (name_refers v.0 name ((h.0).roots v.0 v.1) v.2) x)
  open_quiet c steps.Scan is h = cond_both (scan_done c) _ _ (Quiet P end) (λ t. same_quiet c Clean is refl h) (λ t. go (replica_at c c.scan_place) refl)
    where
      next : (o : Option Collection) → ((d : Collection) → o ≡ Some d → Originals P d.replicas) → (d : Collection) → option_map next_field o ≡ Some d → Originals P d.replicas
      next o f d e = grind (arith, common_steps)

      go : (t : Option Replica) → replica_at c c.scan_place ≡ t → Quiet P end (scan_replica s c t)
      go None e = same_quiet c Clean is refl h
      go (Some r) e =
          let found = find_some (λ (q : Replica). q.place == c.scan_place) c.replicas r e in
          cond_both (r.object.raw || (c.scan_field == length r.object.fields)) _ _ (Quiet P end)
          (λ t. (refl, (h.0, h.1, h.2)))
          (λ t. in_room c Scanned (option_map next_field (bring_up_to_date c s.heap.graph r.original c.scan_field)) is refl h
          (next (bring_up_to_date c s.heap.graph r.original c.scan_field) (λ d x. bring_originals P c d s.heap.graph r.original c.scan_field h.0 h.1 (h.1 r found.0) x)))
  open_quiet c (steps.Apply m) is h = go (log_at c m)
    where
      go : (l : List (ℕ × ℕ)) → Quiet P end (apply_log s c m l)
      go [] = same_quiet c Clean is refl h
      go (entry ∷ rest) = in_room c Applied (apply_entry (with_log c m rest) s.heap.graph entry) is refl h (λ d x. applied (is_some (replica_of c entry.0)) refl d x)
        where
          applied : (b : Bool) → is_some (replica_of c entry.0) ≡ b → (d : Collection) → cond b (bring_up_to_date (with_log c m rest) s.heap.graph entry.0 entry.1) (Some (with_log c m rest)) ≡ Some d → Originals P d.replicas
          applied true t d x =
              let r = some_of (replica_of c entry.0) t in
              let found = replica_in c entry.0 r.0 r.1 in
              bring_originals P (with_log c m rest) d s.heap.graph entry.0 entry.1 h.0 h.1 (subst P found.1 (h.1 r.0 found.0)) x
          applied false t d x = let same : with_log c m rest ≡ d = cc x in subst (λ (q : Collection). Originals P q.replicas) same h.1
  open_quiet c steps.Flip is h =
      cond_both (is_ready c s.heap.graph) _ _ (Quiet P end)
      (λ t. cond_both (passes_check s c) _ _ (Quiet P end) (λ u. (refl, tt)) (λ u. same_quiet c Refused is refl h))
      (λ t. same_quiet c NotReady is refl h)
  open_quiet c steps.Drop is h = (refl, tt)

-- ---- where a collection begins

follow_more : (objects : List (ℕ × Object)) (v : Option Value) (fields : List ℕ) (i : ℕ) → follow objects v (fields ++ i ∷ []) ≡ follow objects (follow objects v fields) (i ∷ [])
follow_more objects None fields i = refl
follow_more objects (Some v) [] i = refl
follow_more objects (Some v) (j ∷ fields) i = follow_more objects (field_of (object_of objects v) j) fields i

begun_closed : (s : State) → IsState s → LeadsOnlyTo (IsLiveSince s) s.heap.graph
begun_closed s h = record { roots = roots; fields = fields }
  where
    g : Graph
    g = s.heap.graph

    root_kept : (i : ℕ) (v : Value) → slice_get g.roots i ≡ Some v → RefersTo (IsLiveSince s) v
    root_kept i Nil e = tt
    root_kept i (Num n) e = tt
    root_kept i (Ref a) e = inl (i, [], ap (λ o. follow g.objects o []) e)

    roots : (v : Value) → In v g.roots → RefersTo (IsLiveSince s) v
    roots v k = let i = in_get v g.roots k in root_kept i.0 v i.1

    field_kept : (a : ℕ) (o : Object) → In (a, o) g.objects → Reachable g a → (i : ℕ) (v : Value) → slice_get o.fields i ≡ Some v → RefersTo (IsLiveSince s) v
    field_kept a o k r i Nil e = tt
    field_kept a o k r i (Num n) e = tt
    field_kept a o k r i (Ref b) e =
        let found = lookup_laid 1 g.objects (s.size - s.heap.free) a o (h.heap).laid k in
        inl (
          r.0,
          r.1 ++ i ∷ [],
          follow_more g.objects (slice_get g.roots r.0) r.1 i
              ∙ (ap (λ v. follow g.objects v (i ∷ [])) r.2
              ∙ (ap (λ (x : Option Object). follow g.objects (field_of x i) []) found
              ∙ ap (λ x. follow g.objects x []) e)),
        )

    fields : (a : ℕ) (o : Object) → In (a, o) g.objects → IsLiveSince s a → (v : Value) → In v o.fields → RefersTo (IsLiveSince s) v
    fields a o k (inl r) v l = let i = in_get v o.fields l in field_kept a o k r i.0 v i.1
    fields a o k (inr late) v l = absurd (let range = laid_range 1 g.objects (s.size - s.heap.free) (a, o) (h.heap).laid k in omega arith)

-- ---- whole runs

record Follows (mutators : ℕ) (base s : State) : Type 0 where
  reached : Reached mutators s
  carried : CarriesIn (IsLiveSince base) (heap_end base) s s.collection

mutate_carries : (base s : State) (m : ℕ) (op : Op) → CarriesIn (IsLiveSince base) (heap_end base) s s.collection → CarriesIn (IsLiveSince base) (heap_end base) (mutate s m op).1 (mutate s m op).1.collection
mutate_carries base s m op h = grind (arith, common_steps, cond_both, step_closed)

event_carries : (mutators : ℕ) (base s : State) (event : Event) → Follows mutators base s → IsRootEvent mutators event → Follows mutators (base_after base s event) (after s event)
event_carries mutators base s (Mutate m op) h r = record { reached = root_event_keeps mutators s (Mutate m op) h.reached r; carried = mutate_carries base s m op h.carried }
event_carries mutators base s (Collect step) h r = record { reached = root_event_keeps mutators s (Collect step) h.reached r; carried = go s.collection refl h.carried step }
  where
    Goal : StepReply × State → Type 0
    Goal next = let first = cond (is_begun next.0) s base in CarriesIn (IsLiveSince first) (heap_end first) next.1 next.1.collection

    quiet : (next : StepReply × State) → Quiet (IsLiveSince base) (heap_end base) next → Goal next
    quiet next q = subst (λ b. let first = cond b s base in CarriesIn (IsLiveSince first) (heap_end first) next.1 next.1.collection) (sym q.0) q.1

    idle : s.collection ≡ None → CarriesIn (IsLiveSince base) (heap_end base) s s.collection
    idle is = subst (CarriesIn (IsLiveSince base) (heap_end base) s) (sym is) tt

    go : (o : Option Collection) → s.collection ≡ o → CarriesIn (IsLiveSince base) (heap_end base) s s.collection → (step : Step) → Goal (option_map_or (λ (c : Collection). step_in s c step) o (step_idle s step))
    go None is k steps.Begin = (begun_closed s (h.reached).ok, (λ r x. absurd x), omega arith)
    go None is k (steps.BeginSized size) = (begun_closed s (h.reached).ok, (λ r x. absurd x), omega arith)
    go None is k steps.Roots = idle is
    go None is k steps.Scan = idle is
    go None is k (steps.Apply m) = idle is
    go None is k steps.Flip = idle is
    go None is k steps.Drop = idle is
    go (Some c) is k step = quiet (option_map_or (λ (c : Collection). step_in s c step) (Some c) (step_idle s step)) (open_quiet (IsLiveSince base) (heap_end base) s c step is (subst (CarriesIn (IsLiveSince base) (heap_end base) s) is k))

run_carries : (mutators : ℕ) (events : List Event) (base s : State) → Follows mutators base s → AreRootEvents mutators events → Follows mutators (base_of_run base s events) (state_after s events)
run_carries mutators [] base s h r = h
run_carries mutators (event ∷ events) base s h r = run_carries mutators events (base_after base s event) (after s event) (event_carries mutators base s event h r.0) r.1

kept_named : (base s : State) (o : Option Collection) → CarriesIn (IsLiveSince base) (heap_end base) s o → OnlyLiveIsNamed base s.heap.graph o
kept_named base s None k = tt
kept_named base s (Some c) k = (k.0, all_from_in (λ (p : ℕ × ℕ). IsLiveSince base p.0) (pairs_of c) (λ p l. let q = in_map_from pair p c.replicas l in subst (λ (x : ℕ × ℕ). IsLiveSince base x.0) q.2 (k.1 q.0 q.1)))

named_paired : (base : State) (g : Graph) (o : Option Collection) → OnlyLiveIsNamed base g o → OnlyLiveIsPaired base o
named_paired base g None k = tt
named_paired base g (Some c) k = k.1

pub carries_from : (s : State) → IsState s → s.collection ≡ None → CarriesOnlyLiveFrom s
carries_from s ok none events r =
    let base : State = base_of_run s s events in
    let end : State = state_after s events in
    let f = run_carries s.mutators events s s (record { reached = record { ok = ok; count = refl }; carried = subst (CarriesIn (IsLiveSince s) (heap_end s) s) (sym none) tt }) r in
    named_paired base end.heap.graph end.collection (kept_named base end _ f.carried)

pub names_only_live : NamesOnlyLive
names_only_live size mutators events low high r =
    let f = run_carries mutators events (opening_state size mutators) (opening_state size mutators) (record { reached = record { ok = opening_ok size mutators low high; count = refl }; carried = tt }) (root_events mutators events r) in
    kept_named (base_of_run (opening_state size mutators) (opening_state size mutators) events) (state_after (opening_state size mutators) events) _ f.carried

pub carries_only_live : CarriesOnlyLive
carries_only_live size mutators events low high r =
    let end : State = state_after (opening_state size mutators) events in
    named_paired (base_of_run (opening_state size mutators) (opening_state size mutators) events) end.heap.graph end.collection (names_only_live size mutators events low high r)
