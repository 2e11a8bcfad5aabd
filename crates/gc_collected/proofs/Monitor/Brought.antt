-- What a step of the collector leaves as it is, and a replica that it places: if it is raw it is its original.
-- For the theorem that the monitor follows its heap.
use Rattle.std.proofs.lemmas.Grind.{common_steps}
use Rattle.std.specs.Option.{option_map}
use Rattle.std.proofs.Common.{◌≡◌, ◌⊎◌, inl, inr, ⊎_elim, ℕ, suc, ◌+◌, ◌==◌, nat_lt, Bool, true, false, cond, ◌||◌, List, [], ◌∷◌, ◌++◌, map, length, Option, Some, None, is_some, refl, ap, sym, ◌∙◌, subst, arith}
use Rattle.std.proofs.lemmas.Bool.{cases_Bool, cond-true, cond-false, eqb-true, or_left, or_right}
use Rattle.gc_graph.specs.Graph.{Value, Nil, Num, Ref, Object, Graph, lookup, field_of, new_object}
use Rattle.gc_model.specs.State.{Replica, Collection, State, new_end, new_free, replica_of, replica_at, moved, fresh_object}
use Rattle.gc_model.specs.Steps.{fresh_replica, place_replica, with_replica, with_written, write_replica, bring_value, bring_up_to_date, if_room, next_object, root_target, copy_root, scan, with_log, apply_log}
use Rattle.gc_model.specs.Members.{In}
use Rattle.gc_model.specs.Belonging.{Laid}
use Rattle.gc_model.specs.declared.step.StepReply.{StepReply}
use Rattle.gc_model.specs.declared.step.StepReply.TheVariants.{Clean, NoRoom, Copied, Passed, Scanned, Applied}
use Rattle.gc_model.proofs.Public.{laid_range, in_map, in_map_from, in_push, pair, placed, with_written_pair, fresh_raw, replica_in, no_replica, unreplicated_some}
use Rattle.gc_words.proofs.Public.{none_of, some_of}

-- a replica is its original, and that had none before
pub record IsFresh (objects : List (ℕ × Object)) (c : Collection) (q : Replica) : Type 0 where
  pub free : (r : Replica) → In r c.replicas → r.original ≡ q.original → ⊥
  pub same : q.object.raw ≡ true → lookup objects q.original ≡ Some q.object

-- the same logs and scan pointer, and whatever is placed behind the last replica is fresh
pub record Brings (objects : List (ℕ × Object)) (c d : Collection) : Type 0 where
  pub size : d.size ≡ c.size
  pub logs : d.logs ≡ c.logs
  pub scan_place : d.scan_place ≡ c.scan_place
  pub scan_field : d.scan_field ≡ c.scan_field
  pub fresh : (q : Replica) → In q d.replicas → q.place ≡ new_end c → IsFresh objects c q

module _ (objects : List (ℕ × Object)) (c : Collection) (laid : Laid 1 (map placed c.replicas) (new_end c)) where
  not_behind : (q : Replica) → In q c.replicas → q.place ≡ new_end c → ⊥
  not_behind q l e = grind (arith, common_steps, (laid_range 1 (map placed c.replicas) (new_end c) (placed q) laid (in_map placed q c.replicas l)).1)

  pub brings_none : Brings objects c c
  brings_none = record { size = refl; logs = refl; scan_place = refl; scan_field = refl; fresh = λ q l e. absurd (not_behind q l e) }

  fresh_same : (o : Object) → (fresh_object o).raw ≡ true → fresh_object o ≡ o
  fresh_same o raw = cond-true o.raw o (new_object false o.kind (length o.fields)) (sym (fresh_raw o) ∙ raw)

  pub brings_placed : (d : Collection) (name : ℕ) → replica_of c name ≡ None → place_replica c name (lookup objects name) ≡ Some d → Brings objects c d
  brings_placed d name none is = go (lookup objects name) refl is
    where
      at : (o : Object) → lookup objects name ≡ Some o → (b : Bool) → cond b None (Some (record c { replicas = c.replicas ++ fresh_replica name (new_end c) o ∷ [] })) ≡ Some d → Brings objects c d
      at o found true k = absurd (let no : None ≡ Some d = k in cc)
      at o found false k =
          let new_one : Replica = fresh_replica name (new_end c) o in
          let larger : Collection = record c { replicas = c.replicas ++ new_one ∷ [] } in
          let same : larger ≡ d = cc k in
          let one : IsFresh objects c new_one = record {
            free = λ r l e. no_replica c name r none l e;
            same = λ raw. found ∙ ap (λ (x : Object). Some x) (sym (fresh_same o raw));
          } in
          subst (Brings objects c) same (record {
            size = refl;
            logs = refl;
            scan_place = refl;
            scan_field = refl;
            fresh = λ q l e. ⊎_elim (λ old. absurd (not_behind q old e)) (λ is. subst (IsFresh objects c) is one) (in_push q new_one c.replicas l);
          })

      go : (o : Option Object) → lookup objects name ≡ o → place_replica c name o ≡ Some d → Brings objects c d
      go None found k = absurd (let no : None ≡ Some d = k in cc)
      go (Some o) found k = at o found (nat_lt (new_free c) (length o.fields + 2)) k

  brings_target : (g : Graph) (d : Collection) (v : Value) → g.objects ≡ objects → with_replica c g v ≡ Some d → Brings objects c d
  brings_target g d Nil same k = let e : c ≡ d = cc k in subst (Brings objects c) e brings_none
  brings_target g d (Num n) same k = let e : c ≡ d = cc k in subst (Brings objects c) e brings_none
  brings_target g d (Ref a) same k = go (is_some (replica_of c a)) refl k
    where
      go : (b : Bool) → is_some (replica_of c a) ≡ b → cond b (Some c) (place_replica c a (lookup g.objects a)) ≡ Some d → Brings objects c d
      go true t k = let e : c ≡ d = cc k in subst (Brings objects c) e brings_none
      go false t k = brings_placed d a (none_of (replica_of c a) t) (ap (λ os. place_replica c a (lookup os a)) (sym same) ∙ k)

  -- another replica is written
  brings_written : (d : Collection) (name i : ℕ) (w : Value) → ((r : Replica) × In r c.replicas × (r.original ≡ name)) → Brings objects c d → Brings objects c (write_replica d name i w)
  brings_written d name i w has h = record {
    size = h.size;
    logs = h.logs;
    scan_place = h.scan_place;
    scan_field = h.scan_field;
    fresh = λ q l e.
        let from = in_map_from (with_written name i w) q d.replicas l in
        let same : pair from.0 ≡ pair q = sym (with_written_pair name i w from.0) ∙ ap pair from.2 in
        let one = h.fresh from.0 from.1 (ap (λ (p : ℕ × ℕ). p.1) same ∙ e) in
        elim (cases_Bool (from.0.original == name)) [
          | inl y ↦ absurd (one.free has.0 has.1 (has.2 ∙ sym (eqb-true from.0.original name y)))
          | inr n ↦ subst (IsFresh objects c) (sym (cond-false (from.0.original == name) (record from.0 { object = Rattle.gc_graph.specs.Graph.with_field from.0.object i w }) from.0 n) ∙ from.2) one
        ];
  }

  pub brings : (g : Graph) (d : Collection) (name i : ℕ) → g.objects ≡ objects → ((r : Replica) × In r c.replicas × (r.original ≡ name)) → bring_up_to_date c g name i ≡ Some d → Brings objects c d
  brings g d name i same has is = go (field_of (lookup g.objects name) i) is
    where
      at : (v : Value) (e : Option Collection) → with_replica c g v ≡ e → option_map (λ (d : Collection). write_replica d name i (moved d v)) e ≡ Some d → Brings objects c d
      at v None r k = absurd (let no : None ≡ Some d = k in cc)
      at v (Some e) r k = let s : write_replica e name i (moved e v) ≡ d = cc k in subst (Brings objects c) s (brings_written e name i (moved e v) has (brings_target g e v same r))

      go : (f : Option Value) → bring_value c g name i f ≡ Some d → Brings objects c d
      go None k = let e : c ≡ d = cc k in subst (Brings objects c) e brings_none
      go (Some v) k = at v (with_replica c g v) refl k

-- ---- what the steps did

pub record RootCopied (s : State) (c next : Collection) : Type 0 where
  pub name : ℕ
  pub none : replica_of c name ≡ None
  pub is : place_replica c name (lookup s.heap.graph.objects name) ≡ Some next

pub root_copied : (s s' : State) (c next : Collection) → copy_root s c (root_target c s.heap.graph) ≡ (Copied, s') → s'.collection ≡ Some next → RootCopied s c next
root_copied s s' c next said is = go (root_target c s.heap.graph) refl said
  where
    at : (name : ℕ) → replica_of c name ≡ None → (o : Option Collection) → place_replica c name (lookup s.heap.graph.objects name) ≡ o → if_room s Copied o ≡ (Copied, s') → RootCopied s c next
    at name none None e u = absurd (let no : NoRoom ≡ Copied = ap (λ (x : StepReply × State). x.0) u in cc)
    at name none (Some d) e u = grind (arith, common_steps)

    go : (o : Option ℕ) → root_target c s.heap.graph ≡ o → copy_root s c o ≡ (Copied, s') → RootCopied s c next
    go None e u = absurd (let no : Clean ≡ Copied = ap (λ (x : StepReply × State). x.0) u in cc)
    go (Some name) e u = at name (unreplicated_some c _ name e).0 (place_replica c name (lookup s.heap.graph.objects name)) refl u

pub record FieldScanned (s : State) (c next : Collection) : Type 0 where
  pub replica : Replica
  pub found : replica_at c c.scan_place ≡ Some replica
  pub plain : replica.object.raw ≡ false
  pub more : (c.scan_field == length replica.object.fields) ≡ false
  pub mid : Collection
  pub brought : bring_up_to_date c s.heap.graph replica.original c.scan_field ≡ Some mid
  pub is : record mid { scan_field = suc mid.scan_field } ≡ next

pub field_was_scanned : (s s' : State) (c next : Collection) → scan s c ≡ (Scanned, s') → s'.collection ≡ Some next → FieldScanned s c next
field_was_scanned s s' c next said is = grind (arith, common_steps, cases_Bool, or_left, or_right, cond-true, cond-false)

pub record ReplicaPassed (c next : Collection) : Type 0 where
  pub replica : Replica
  pub found : replica_at c c.scan_place ≡ Some replica
  pub done : (replica.object.raw || (c.scan_field == length replica.object.fields)) ≡ true
  pub is : next_object c replica ≡ next

pub replica_was_passed : (s s' : State) (c next : Collection) → scan s c ≡ (Passed, s') → s'.collection ≡ Some next → ReplicaPassed c next
replica_was_passed s s' c next said is = grind (arith, common_steps)

-- the entry's field was brought up to date, or its object has no replica
pub record EntryApplied (s : State) (c next : Collection) (m : ℕ) (entry : ℕ × ℕ) (rest : List (ℕ × ℕ)) : Type 0 where
  pub is : ((r : Replica) × In r c.replicas × (r.original ≡ entry.0) × (bring_up_to_date (with_log c m rest) s.heap.graph entry.0 entry.1 ≡ Some next)) ⊎ ((replica_of c entry.0 ≡ None) × (with_log c m rest ≡ next))

pub entry_was_applied : (s s' : State) (c next : Collection) (m : ℕ) (entry : ℕ × ℕ) (rest : List (ℕ × ℕ)) → apply_log s c m (entry ∷ rest) ≡ (Applied, s') → s'.collection ≡ Some next → EntryApplied s c next m entry rest
entry_was_applied s s' c next m entry rest said is = grind (arith, common_steps, some_of, replica_in, none_of)
