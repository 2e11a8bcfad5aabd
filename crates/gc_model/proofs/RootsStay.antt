-- What commands and steps leave of roots. No step removes a replica: once a root's target has one, it keeps it.
use Rattle.std.proofs.lemmas.Grind.{common_steps}
use Rattle.std.proofs.Common.{◌≡◌, ◌≢◌, ℕ, zero, suc, ◌<◌, Bool, true, List, [], ◌∷◌, ◌++◌, length, map, slice_get, Option, Some, None, is_some, refl, sym, ap, ◌∙◌, arith, subst}
use Rattle.std.specs.Prelude.{⊤, is_none, IfSome}
use Rattle.std.specs.Option.{option_map, unwrap_or, option_map_or}
use Rattle.std.specs.List.{find, flat_map}
use Rattle.std.proofs.lemmas.Bool.{cond_both}
use Rattle.std.proofs.lemmas.List.{length-map}
use Rattle.gc_graph.specs.Slots.{place}
use Rattle.gc_graph.specs.Graph.{Value, Nil, Ref, Graph, lookup, field_of, names_of, root, set_root, Num}
use Rattle.gc_graph.specs.Machine.{step}
use Rattle.gc_graph.specs.declared.command.Op.{Op}
use Rattle.gc_graph.proofs.Public.{step_roots}
use Rattle.gc_model.specs.State.{Replica, Collection, State, replica_of, moved}
use Rattle.gc_model.specs.Steps.{mutate, with_log, write_replica, bring_value, if_room, root_target, apply_entry, apply_log, is_ready, passes_check, flip, collect, step_in, step_idle, logged, log_at}
use Rattle.gc_model.specs.Staying.{HasReplicaOf, IsMissing, KnowsRoot, root_written}
use Rattle.gc_model.specs.declared.step.Step.{Step}
use Rattle.gc_model.specs.declared.step.Step.TheVariants as steps
use Rattle.gc_model.specs.declared.step.StepReply.{StepReply}
use Rattle.gc_model.specs.declared.step.StepReply.TheVariants.{Applied}
use Rattle.gc_model.proofs.Lists.{get_set_other}
use Rattle.gc_model.proofs.Replicas.{place_written}

-- ---- replicas

-- every object with a replica in the first has one in the second
abbrev Keeps : Collection → Collection → Type 0
Keeps c next = (a : ℕ) → is_some (replica_of c a) ≡ true → is_some (replica_of next a) ≡ true

-- the same of a step for which there may be no room
abbrev KeepsIfRoom : Collection → Option Collection → Type 0
KeepsIfRoom c None = ⊤
KeepsIfRoom c (Some next) = Keeps c next

found_on : {X : Type 0} (p : X → Bool) (xs ys : List X) → is_some (find p xs) ≡ true → is_some (find p (xs ++ ys)) ≡ true
found_on p [] ys e = absurd cc
found_on p (x ∷ xs) ys e = grind (arith, common_steps, found_on p xs ys)

is_some_map : {X Y : Type 0} (f : X → Y) (o : Option X) → is_some (option_map f o) ≡ is_some o
is_some_map f o = grind (arith, common_steps)

written : (c : Collection) (name i : ℕ) (v : Value) → Keeps c (write_replica c name i v)
written c name i v a e =
    sym (is_some_map (λ (r : Replica). r.place) (replica_of (write_replica c name i v) a))
    ∙ ap is_some (place_written c.replicas name i a v)
    ∙ is_some_map (λ (r : Replica). r.place) (replica_of c a)
    ∙ e

brought : (c : Collection) (g : Graph) (name i : ℕ) (o : Option Value) → KeepsIfRoom c (bring_value c g name i o)
brought c g name i o = grind (arith, common_steps, written, cond_both, found_on)

entry_applied : (c : Collection) (g : Graph) (entry : ℕ × ℕ) → KeepsIfRoom c (apply_entry c g entry)
entry_applied c g entry = cond_both (is_some (replica_of c entry.0)) _ _ (KeepsIfRoom c) (λ t. brought c g entry.0 entry.1 (field_of (lookup g.objects entry.0) entry.1)) (λ t. λ a e. e)

-- ---- a root's target

module _ (p : ℕ) where
  abbrev Knows : StepReply × State → Type 0
  Knows next = KnowsRoot next.1 p

  if_room_stays : (s : State) (c : Collection) (reply : StepReply) (o : Option Collection) → KnowsRoot s p → HasReplicaOf c (root s.heap.graph p) → KeepsIfRoom c o → Knows (if_room s reply o)
  if_room_stays s c reply o known has k = grind (arith, common_steps)

  log_stays : (s : State) (c : Collection) (m : ℕ) (log : List (ℕ × ℕ)) → KnowsRoot s p → HasReplicaOf c (root s.heap.graph p) → Knows (apply_log s c m log)
  log_stays s c m [] known has = known
  log_stays s c m (entry ∷ rest) known has = if_room_stays s c Applied (apply_entry (with_log c m rest) s.heap.graph entry) known has (entry_applied (with_log c m rest) s.heap.graph entry)

  flip_stays : (s : State) (c : Collection) → KnowsRoot s p → Knows (flip s c)
  flip_stays s c known = cond_both (is_ready c s.heap.graph) _ _ Knows (λ t. cond_both (passes_check s c) _ _ Knows (λ u. tt) (λ u. known)) (λ t. known)

  pub collect_stays : (s : State) (c : Collection) (step : Step) → s.collection ≡ Some c → KnowsRoot s p → KnowsRoot (collect s step).1 p
  collect_stays s c step is known = grind (arith, common_steps, if_room_stays, cond_both, found_on, brought, log_stays, flip_stays)

-- ---- commands

set_elsewhere : (g : Graph) (q p : ℕ) (v : Value) → Some q ≢ Some p → root (set_root g q v) p ≡ root g p
set_elsewhere g q p v other = ap (λ o. unwrap_or o Nil) (get_set_other g.roots q p v (λ e. other (ap Some (sym e))))

-- a command leaves every root that it does not write
pub root_kept : (s : State) (m : ℕ) (op : Op) (p : ℕ) → root_written m op ≢ Some p → root (mutate s m op).1.heap.graph p ≡ root s.heap.graph p
root_kept s m op p other = grind (arith, common_steps, cond_both, set_elsewhere)

pub roots_counted : (s : State) (m : ℕ) (op : Op) → length (mutate s m op).1.heap.graph.roots ≡ length s.heap.graph.roots
roots_counted s m op = grind (arith, common_steps, cond_both, step_roots)

pub mutate_stays : (s : State) (m : ℕ) (op : Op) (p : ℕ) → root_written m op ≢ Some p → KnowsRoot s p → KnowsRoot (mutate s m op).1 p
mutate_stays s m op p other known = go s.collection _ s.heap.graph (mutate s m op).1.heap.graph (root_kept s m op p other) known
  where
    go : (o : Option Collection) (entries : List (ℕ × ℕ)) (g h : Graph) → root h p ≡ root g p → IfSome o (λ c. HasReplicaOf c (root g p)) → IfSome (logged o m entries) (λ c. HasReplicaOf c (root h p))
    go None entries g h same k = k
    go (Some c) entries g h same k = subst (HasReplicaOf (with_log c m (log_at c m ++ entries))) (sym same) (of_value (root g p) k)
      where
        of_value : (v : Value) → HasReplicaOf c v → HasReplicaOf (with_log c m (log_at c m ++ entries)) v
        of_value Nil k = k
        of_value (Num n) k = k
        of_value (Ref name) k = k

-- ---- steps

nil_moved : (c : Collection) (vs : List Value) (p : ℕ) → unwrap_or (slice_get vs p) Nil ≡ Nil → unwrap_or (slice_get (map (moved c) vs) p) Nil ≡ Nil
nil_moved c [] p e = refl
nil_moved c (v ∷ vs) zero e = ap (moved c) e
nil_moved c (v ∷ vs) (suc p) e = nil_moved c vs p e

flip_keeps_nil : (s : State) (o : Option Collection) (p : ℕ) → root s.heap.graph p ≡ Nil → root (option_map_or (λ (c : Collection). step_in s c steps.Flip) o (step_idle s steps.Flip)).1.heap.graph p ≡ Nil
flip_keeps_nil s None p e = e
flip_keeps_nil s (Some c) p e =
    cond_both (is_ready c s.heap.graph) _ _ (λ (next : StepReply × State). root next.1.heap.graph p ≡ Nil)
    (λ t. cond_both (passes_check s c) _ _ (λ (next : StepReply × State). root next.1.heap.graph p ≡ Nil) (λ u. nil_moved c s.heap.graph.roots p e) (λ u. e))
    (λ t. e)

-- a flip leaves nil roots nil
pub flip_nil : (s : State) (p : ℕ) → root s.heap.graph p ≡ Nil → root (collect s steps.Flip).1.heap.graph p ≡ Nil
flip_nil s p e = flip_keeps_nil s s.collection p e

flip_keeps_count : (s : State) (o : Option Collection) → length (option_map_or (λ (c : Collection). step_in s c steps.Flip) o (step_idle s steps.Flip)).1.heap.graph.roots ≡ length s.heap.graph.roots
flip_keeps_count s o = grind (arith, common_steps, cond_both, length-map)

pub flip_count : (s : State) → length (collect s steps.Flip).1.heap.graph.roots ≡ length s.heap.graph.roots
flip_count s = flip_keeps_count s s.collection

-- ---- the first root whose target has no replica

abbrev AllHave : Collection → List Value → ℕ → Type 0
AllHave c vs n = (p : ℕ) → p < n → HasReplicaOf c (unwrap_or (slice_get vs p) Nil)

skip : (c : Collection) (v : Value) (names : List ℕ) → HasReplicaOf c v → find (λ (name : ℕ). is_none (replica_of c name)) (names_of v ++ names) ≡ find (λ (name : ℕ). is_none (replica_of c name)) names
skip c v names h = grind (arith, common_steps)

stop : (c : Collection) (v : Value) (name : ℕ) (names : List ℕ) → v ≡ Ref name → replica_of c name ≡ None → find (λ (name : ℕ). is_none (replica_of c name)) (names_of v ++ names) ≡ Some name
stop c v name names is none = grind (arith, common_steps)

first_found : (c : Collection) (vs : List Value) (place name : ℕ) → AllHave c vs place → unwrap_or (slice_get vs place) Nil ≡ Ref name → replica_of c name ≡ None → find (λ (name : ℕ). is_none (replica_of c name)) (flat_map names_of vs) ≡ Some name
first_found c [] place name all is none = absurd cc
first_found c (v ∷ vs) zero name all is none = stop c v name (flat_map names_of vs) is none
first_found c (v ∷ vs) (suc place) name all is none = skip c v (flat_map names_of vs) (all 0 (omega arith)) ∙ first_found c vs place name (λ p l. all (suc p) (omega arith)) is none

none_found : (c : Collection) (vs : List Value) → AllHave c vs (length vs) → find (λ (name : ℕ). is_none (replica_of c name)) (flat_map names_of vs) ≡ None
none_found c [] all = refl
none_found c (v ∷ vs) all = skip c v (flat_map names_of vs) (all 0 (omega arith)) ∙ none_found c vs (λ p l. all (suc p) (omega arith))

pub first_missing : (c : Collection) (g : Graph) (to place name : ℕ) → IsMissing c g 0 to place name → root_target c g ≡ Some name
first_missing c g to place name h = first_found c g.roots place name (λ p l. h.before p (omega arith) l) h.target h.missing

pub all_replicated : (c : Collection) (g : Graph) → ((p : ℕ) → p < length g.roots → HasReplicaOf c (root g p)) → root_target c g ≡ None
all_replicated c g all = none_found c g.roots all
