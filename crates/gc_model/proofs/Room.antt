-- Each original has one replica of its own size, so the new space has room for all.
use Rattle.std.proofs.lemmas.Grind.{common_steps}
use Rattle.std.specs.Prelude.{IfSome}
use Rattle.std.specs.Option.{option_map}
use Rattle.std.proofs.Common.{◌≡◌, ◌≢◌, ⊎_elim, ℕ, ◌+◌, ◌-◌, ◌≤◌, ◌==◌, nat_lt, Bool, false, ◌||◌, List, [], ◌∷◌, map, length, Option, Some, None, is_some, slice_get, flat_map, sum_by, refl, ap, sym, ◌∙◌, subst, arith}
use Rattle.std.proofs.lemmas.Bool.{cases_Bool, cond-true, cond-false, cond_both, le-ltb}
use Rattle.std.proofs.lemmas.List.Sums.{sum_by-cons}
use Rattle.gc_graph.specs.Graph.{Value, Nil, Num, Ref, Object, Graph, lookup, field_of, names_of}
use Rattle.gc_model.specs.State.{Replica, Collection, State, objects_end, new_free, replica_of, moved}
use Rattle.gc_model.specs.Steps.{with_log, place_replica, with_replica, bring_value, bring_up_to_date, if_room, root_target, copy_root, scan_replica, apply_entry, apply_log, collect, write_replica, next_field}
use Rattle.gc_model.specs.Passing.{AlwaysHasRoom}
use Rattle.gc_model.specs.Members.{In, Distinct}
use Rattle.gc_model.specs.Belonging.{Laid, IsNamed, RefersTo, IsSpaceGraph, IsDue, IsOpened, IsState}
use Rattle.gc_model.specs.declared.step.Step.{Step}
use Rattle.gc_model.specs.declared.step.StepReply.{StepReply}
use Rattle.gc_model.specs.declared.step.StepReply.TheVariants.{NoRoom, Copied, Scanned, Applied}
use Rattle.gc_words.proofs.Public.{none_of}
use Rattle.gc_model.proofs.Lists.{in_flat_map_from, get_in}
use Rattle.gc_model.proofs.Heap.{lookup_here, lookup_there, lookup_named, lookup_in}
use Rattle.gc_model.proofs.Replicas.{placed, replicas_end, AreReplicas}
use Rattle.gc_model.proofs.Steps.{its_replicas, unnamed, unreplicated_some}

abbrev weight_of : Option Object → ℕ
weight_of None = 0
weight_of (Some o) = length o.fields + 2

-- the number of words of the named object
abbrev weight : List (ℕ × Object) → ℕ → ℕ
weight objects a = weight_of (lookup objects a)

others_weigh : (e : ℕ × Object) (rest : List (ℕ × Object)) (names : List ℕ) → (In e.0 names → ⊥) → sum_by (weight (e ∷ rest)) names ≡ sum_by (weight rest) names
others_weigh e rest [] absent = refl
others_weigh e rest (n ∷ names) absent = grind (arith, common_steps, lookup_there, sum_by-cons, others_weigh e rest names)

one_weighs : (e : ℕ × Object) (rest : List (ℕ × Object)) (names : List ℕ) → Distinct names → sum_by (weight (e ∷ rest)) names ≤ length e.1.fields + 2 + sum_by (weight rest) names
one_weighs e rest [] d = omega arith
one_weighs e rest (n ∷ names) d = grind (arith, common_steps, sum_by-cons, lookup_here, others_weigh, lookup_there, cases_Bool, one_weighs e rest names d.1)

nothing_weighs : (names : List ℕ) → sum_by (weight []) names ≡ 0
nothing_weighs [] = refl
nothing_weighs (n ∷ names) = let r = nothing_weighs names in omega (arith, r, sum_by-cons (weight []) n names)

-- distinct objects of a space have no more words than the space
weights_fit : (at : ℕ) (objects : List (ℕ × Object)) (end : ℕ) (names : List ℕ) → Laid at objects end → Distinct names → at + sum_by (weight objects) names ≤ end
weights_fit at [] end names h d = let z = nothing_weighs names in let e : at ≡ end = h in omega arith
weights_fit at (e ∷ rest) end names h d = grind (arith, common_steps, nothing_weighs, one_weighs, weights_fit (at + (length e.1.fields + 2)) rest end names h.1 d)

replicas_weigh : (objects : List (ℕ × Object)) (at : ℕ) (replicas : List Replica) → ((r : Replica) → In r replicas → weight objects r.original ≡ length r.object.fields + 2) → objects_end at (map placed replicas) ≡ at + sum_by (weight objects) (map (λ r. r.original) replicas)
replicas_weigh objects at [] h = omega arith
replicas_weigh objects at (r ∷ rest) h = grind (arith, common_steps, sum_by-cons, replicas_weigh objects (at + (length r.object.fields + 2)) rest)

-- there is room for a replica of one more object
room_for : (size free new_size : ℕ) (g : Graph) (Due : Bool → ℕ → ℕ → ℕ → Type 0) (replicas : List Replica) (name : ℕ) (o : Object) → IsSpaceGraph size free g → size ≤ new_size → AreReplicas g.objects new_size Due replicas → lookup g.objects name ≡ Some o → (In name (map (λ r. r.original) replicas) → ⊥)
    → replicas_end replicas + (length o.fields + 2) ≤ new_size
room_for size free new_size g Due replicas name o h larger k found new =
    let fit = weights_fit 1 g.objects (size - free) (name ∷ map (λ (r : Replica). r.original) replicas) h.laid (new, k.once) in
    let all = sum_by-cons (weight g.objects) name (map (λ (r : Replica). r.original) replicas) in
    let one : weight g.objects name ≡ length o.fields + 2 = ap weight_of found in
    let others = replicas_weigh g.objects 1 replicas (λ r l. let ok = k.each r l in ap weight_of ok.found ∙ ap (λ n. n + 2) (sym ok.len)) in
    let room = h.room in
    omega (arith, fit, all, one, others)

-- all replicas together have at most as many words as the objects
pub replicas_fit : (size free new_size : ℕ) (g : Graph) (Due : Bool → ℕ → ℕ → ℕ → Type 0) (replicas : List Replica) → IsSpaceGraph size free g → AreReplicas g.objects new_size Due replicas → replicas_end replicas ≤ size - free
replicas_fit size free new_size g Due replicas h k = grind (arith, common_steps, weights_fit, replicas_weigh)

-- ---- no step lacks room

module _ (s : State) (h : IsSpaceGraph s.size s.heap.free s.heap.graph) where
  placed_there : (c : Collection) (Due : Bool → ℕ → ℕ → ℕ → Type 0) (name : ℕ) → s.size ≤ c.size → AreReplicas s.heap.graph.objects c.size Due c.replicas → replica_of c name ≡ None → IsNamed s.heap.graph.objects name → place_replica c name (lookup s.heap.graph.objects name) ≢ None
  placed_there c Due name same k none named =
      let o = lookup_named s.heap.graph.objects name named in
      let fits = room_for s.size s.heap.free c.size s.heap.graph Due c.replicas name o.0 h same k o.1 (unnamed c name none) in
      let roomy : nat_lt (new_free c) (length o.0.fields + 2) ≡ false = le-ltb (new_free c) (length o.0.fields + 2) (omega arith) in
      let is = ap (place_replica c name) o.1 ∙ cond-false (nat_lt (new_free c) (length o.0.fields + 2)) None _ roomy in
      λ e. cc (sym is ∙ e)

  replicated_there : (c : Collection) (Due : Bool → ℕ → ℕ → ℕ → Type 0) (v : Value) → s.size ≤ c.size → AreReplicas s.heap.graph.objects c.size Due c.replicas → RefersTo (IsNamed s.heap.graph.objects) v → with_replica c s.heap.graph v ≢ None
  replicated_there c Due Nil same k f = λ e. cc e
  replicated_there c Due (Num n) same k f = λ e. cc e
  replicated_there c Due (Ref a) same k f = ⊎_elim
      (λ t. λ e. cc (sym (cond-true (is_some (replica_of c a)) (Some c) (place_replica c a (lookup s.heap.graph.objects a)) t) ∙ e))
      (λ t. λ e. placed_there c Due a same k (none_of (replica_of c a) t) f (sym (cond-false (is_some (replica_of c a)) (Some c) (place_replica c a (lookup s.heap.graph.objects a)) t) ∙ e))
      (cases_Bool (is_some (replica_of c a)))

  brought_there : (c : Collection) (Due : Bool → ℕ → ℕ → ℕ → Type 0) (name i : ℕ) → s.size ≤ c.size → AreReplicas s.heap.graph.objects c.size Due c.replicas → bring_up_to_date c s.heap.graph name i ≢ None
  brought_there c Due name i same k = go (lookup s.heap.graph.objects name) refl
    where
      copied : (v : Value) (d : Option Collection) → d ≢ None → option_map (λ (d : Collection). write_replica d name i (moved d v)) d ≢ None
      copied v d n = grind (arith, common_steps)

      value : (o : Object) → lookup s.heap.graph.objects name ≡ Some o → (f : Option Value) → slice_get o.fields i ≡ f → bring_value c s.heap.graph name i f ≢ None
      value o found None e = λ x. cc x
      value o found (Some v) e = copied v (with_replica c s.heap.graph v) (replicated_there c Due v same k ((h.objects name o (lookup_in s.heap.graph.objects name o found)).fields v (get_in v o.fields i e)))

      go : (o : Option Object) → lookup s.heap.graph.objects name ≡ o → bring_value c s.heap.graph name i (field_of o i) ≢ None
      go o e = grind (arith, common_steps, value)

  in_room : (reply : StepReply) (o : Option Collection) → o ≢ None → reply ≢ NoRoom → (if_room s reply o).0 ≢ NoRoom
  in_room reply o n m = grind (arith, common_steps)

  copies : (c : Collection) → IsOpened s c → s.size ≤ c.size → (t : Option ℕ) → root_target c s.heap.graph ≡ t → (copy_root s c t).0 ≢ NoRoom
  copies c k same None e = λ x. cc x
  copies c k same (Some name) e =
      let n = unreplicated_some c (flat_map names_of s.heap.graph.roots) name e in
      let v = in_flat_map_from names_of name s.heap.graph.roots n.1 in
      in_room Copied (place_replica c name (lookup s.heap.graph.objects name)) (placed_there c (IsDue c) name same (its_replicas (IsDue c) s.heap.graph.objects c k.belongs) n.0 (named v.0 (h.roots v.0 v.1) v.2)) (λ x. cc x)
    where
      named : (v : Value) → RefersTo (IsNamed s.heap.graph.objects) v → In name (names_of v) → IsNamed s.heap.graph.objects name
      named v f x = grind (arith, common_steps)

  scans : (c : Collection) → IsOpened s c → s.size ≤ c.size → (t : Option Replica) → (scan_replica s c t).0 ≢ NoRoom
  scans c k same None = λ x. cc x
  scans c k same (Some r) = cond_both (r.object.raw || (c.scan_field == length r.object.fields)) _ _ (λ (next : StepReply × State). next.0 ≢ NoRoom)
      (λ t. λ x. cc x)
      (λ t. in_room Scanned (option_map next_field (bring_up_to_date c s.heap.graph r.original c.scan_field)) (next (bring_up_to_date c s.heap.graph r.original c.scan_field) (brought_there c (IsDue c) r.original c.scan_field same (its_replicas (IsDue c) s.heap.graph.objects c k.belongs))) (λ x. cc x))
    where
      next : (o : Option Collection) → o ≢ None → option_map next_field o ≢ None
      next o n = grind (arith, common_steps)

  applies : (c : Collection) → IsOpened s c → s.size ≤ c.size → (m : ℕ) (l : List (ℕ × ℕ)) → (apply_log s c m l).0 ≢ NoRoom
  applies c k same m [] = λ x. cc x
  applies c k same m (entry ∷ rest) = in_room Applied (apply_entry (with_log c m rest) s.heap.graph entry)
      (cond_both (is_some (replica_of (with_log c m rest) entry.0)) _ _ (λ (o : Option Collection). o ≢ None)
      (λ t. brought_there (with_log c m rest) (IsDue c) entry.0 entry.1 same (its_replicas (IsDue c) s.heap.graph.objects c k.belongs))
      (λ t. λ x. cc x))
      (λ x. cc x)

  pub opened_has_room : (c : Collection) → IsOpened s c → s.collection ≡ Some c → s.size ≤ c.size → (step : Step) → (collect s step).0 ≢ NoRoom
  opened_has_room c k is same step = grind (arith, common_steps, copies, cond_both, scans, applies)

pub has_room : (s : State) → IsState s → AlwaysHasRoom s
has_room s h c is = opened_has_room s h.heap c (subst (λ (o : Option Collection). IfSome o (IsOpened s)) is h.collection) is
