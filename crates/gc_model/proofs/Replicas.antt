-- The replicas of an open collection, and which of their fields are up to date.
use Rattle.std.proofs.lemmas.Grind.{common_steps}
use Rattle.std.proofs.Common.{◌≡◌, ◌⊎◌, ℕ, ◌+◌, ◌<◌, ◌≤◌, ◌==◌, Bool, true, false, List, [], ◌∷◌, ◌++◌, map, find, length, Some, slice_get, refl, ap, sym, subst, arith, length-set}
use Rattle.std.proofs.lemmas.Bool.{cases_Bool, cond_both, eqb-true, eq-eqb, and_from, and_parts, or_cases, or_left, or_right}
use Rattle.std.proofs.lemmas.List.{length-replicate, map-append}
use Rattle.std.specs.Option.{option_map}
use Rattle.gc_graph.specs.Graph.{Value, Nil, Num, Ref, Object, lookup, new_object}
use Rattle.gc_graph.specs.Machine.{is_number}
use Rattle.gc_graph.specs.Correspond.{paired, correspond}
use Rattle.gc_model.specs.State.{Replica, Collection, objects_end, replica_of, pairs_of, moved, fresh_object}
use Rattle.gc_model.specs.Steps.{with_written, fresh_replica}
use Rattle.gc_model.specs.Members.{In, Distinct}
use Rattle.gc_model.specs.Belonging.{Laid, RefersTo, IsReplica}
use Rattle.gc_model.proofs.Lists.{in_left, in_push, in_map, in_map_from, get_in, get_past, get_set, find_some, find_exists, distinct_push, map_same}
use Rattle.gc_model.proofs.Heap.{laid_push, laid_end_is, end_push}
use Rattle.gc_model.proofs.Commands.{Evolves}

-- ---- values that correspond

abbrev pub IsPlace : List (ℕ × ℕ) → ℕ → Type 0
IsPlace pairs b = (a : ℕ) × In {X = ℕ × ℕ} (a, b) pairs

pub in_paired : (pairs : List (ℕ × ℕ)) (a b : ℕ) → In {X = ℕ × ℕ} (a, b) pairs → paired pairs a b ≡ true
in_paired [] a b h = absurd h
in_paired (p ∷ rest) a b h = grind (arith, common_steps, or_left, and_from, or_right, in_paired rest a b)

pub paired_in : (pairs : List (ℕ × ℕ)) (a b : ℕ) → paired pairs a b ≡ true → In {X = ℕ × ℕ} (a, b) pairs
paired_in [] a b h = absurd cc
paired_in (p ∷ rest) a b h = grind (arith, common_steps, and_parts, or_cases, paired_in rest a b)

-- a value that corresponds to a reference is a reference to a replica's place
pub refers_corresponding : (P : ℕ → Type 0) (pairs : List (ℕ × ℕ)) (v w : Value) → RefersTo P v → correspond pairs v w ≡ true → RefersTo (IsPlace pairs) w
refers_corresponding P pairs Nil Nil f h = tt
refers_corresponding P pairs Nil (Num b) f h = absurd cc
refers_corresponding P pairs Nil (Ref b) f h = absurd cc
refers_corresponding P pairs (Num a) Nil f h = tt
refers_corresponding P pairs (Num a) (Num b) f h = tt
refers_corresponding P pairs (Num a) (Ref b) f h = absurd cc
refers_corresponding P pairs (Ref a) Nil f h = tt
refers_corresponding P pairs (Ref a) (Num b) f h = absurd cc
refers_corresponding P pairs (Ref a) (Ref b) f h = (a, paired_in pairs a b h)

-- ---- replicas

abbrev pub pair : Replica → ℕ × ℕ
pair r = (r.original, r.place)

abbrev pub placed : Replica → ℕ × Object
placed r = (r.place, r.object)

abbrev pub replicas_end : List Replica → ℕ
replicas_end replicas = objects_end 1 (map placed replicas)

-- facts about the replicas of a collection that belongs to a heap
pub record AreReplicas (objects : List (ℕ × Object)) (size : ℕ) (Due : Bool → ℕ → ℕ → ℕ → Type 0) (replicas : List Replica) : Type 0 where
  pub laid : Laid 1 (map placed replicas) (replicas_end replicas)
  pub room : replicas_end replicas ≤ size
  pub once : Distinct (map (λ r. r.original) replicas)
  pub each : (r : Replica) → In r replicas → IsReplica objects (map pair replicas) Due r

-- ---- when the heap changes

pub replicas_evolve : (before later : List (ℕ × Object)) (size : ℕ) (Due Due' : Bool → ℕ → ℕ → ℕ → Type 0) (Touched : ℕ → ℕ → Type 0) (replicas : List Replica)
    → AreReplicas before size Due replicas → Evolves before later Touched → ((raw : Bool) (p a i : ℕ) → Due raw p a i → Due' raw p a i) → ((raw : Bool) (p a i : ℕ) → Touched a i → Due' raw p a i)
    → AreReplicas later size Due' replicas
replicas_evolve before later size Due Due' Touched replicas h evolves weaker touched = record { laid = h.laid; room = h.room; once = h.once; each = each }
  where
    each : (r : Replica) → In r replicas → IsReplica later (map pair replicas) Due' r
    each r k = grind (arith, common_steps, evolves r.original (h.each r k).original (h.each r k).found)

-- ---- when fewer fields are due

pub replicas_due : (objects : List (ℕ × Object)) (size : ℕ) (Due Due' : Bool → ℕ → ℕ → ℕ → Type 0) (replicas : List Replica)
    → AreReplicas objects size Due replicas
    → ((r : Replica) → In r replicas → (i : ℕ) → i < length r.object.fields → Due r.object.raw r.place r.original i → Due' r.object.raw r.place r.original i)
    → AreReplicas objects size Due' replicas
replicas_due objects size Due Due' replicas h f = grind (arith, common_steps, get_past)

-- ---- when a replica is placed

number_corresponds : (pairs : List (ℕ × ℕ)) (v : Value) → is_number v ≡ true → correspond pairs v v ≡ true
number_corresponds pairs v h = grind (arith, common_steps)

-- a fresh replica has its original's size and kind, and is raw exactly if the original is
fresh_length : (o : Object) → length (fresh_object o).fields ≡ length o.fields
fresh_length o = cond_both o.raw o (new_object false o.kind (length o.fields)) (λ (q : Object). length q.fields ≡ length o.fields) (λ t. refl) (λ t. length-replicate (length o.fields) Nil)

fresh_kind : (o : Object) → (fresh_object o).kind ≡ o.kind
fresh_kind o = cond_both o.raw o (new_object false o.kind (length o.fields)) (λ (q : Object). q.kind ≡ o.kind) (λ t. refl) (λ t. refl)

pub fresh_raw : (o : Object) → (fresh_object o).raw ≡ o.raw
fresh_raw o = cond_both o.raw o (new_object false o.kind (length o.fields)) (λ (q : Object). q.raw ≡ o.raw) (λ t. refl) (λ f. sym f)

pub replicas_place : (objects : List (ℕ × Object)) (size : ℕ) (Due : Bool → ℕ → ℕ → ℕ → Type 0) (replicas : List Replica) (name : ℕ) (object : Object)
    → AreReplicas objects size Due replicas → lookup objects name ≡ Some object → (In name (map (λ r. r.original) replicas) → ⊥)
    → replicas_end replicas + (length object.fields + 2) ≤ size
    → ((v : Value) → In v object.fields → object.raw ≡ true → is_number v ≡ true)
    → ((i : ℕ) → Due false (replicas_end replicas) name i)
    → AreReplicas objects size Due (replicas ++ fresh_replica name (replicas_end replicas) object ∷ [])
replicas_place objects size Due replicas name object h found new fits numbers due = grind (arith, common_steps, map-append, laid_push, fresh_length, distinct_push, in_push, end_push, in_left, in_paired, paired_in, number_corresponds, get_in, fresh_raw, fresh_kind)

-- ---- when a field is written

pub with_written_pair : (name i : ℕ) (w : Value) (r : Replica) → pair (with_written name i w r) ≡ pair r
with_written_pair name i w r = grind (arith, common_steps, cases_Bool)

pub place_written : (replicas : List Replica) (name i a : ℕ) (v : Value) → option_map (λ r. r.place) (find (λ r. r.original == a) (map (with_written name i v) replicas)) ≡ option_map (λ r. r.place) (find (λ (r : Replica). r.original == a) replicas)
place_written [] name i a v = refl
place_written (r ∷ rs) name i a v = grind (arith, common_steps, with_written_pair, cases_Bool, place_written rs name i a v)

pub with_written_length : (name i : ℕ) (w : Value) (r : Replica) → length (with_written name i w r).object.fields ≡ length r.object.fields
with_written_length name i w r = grind (arith, common_steps, cases_Bool)

-- replicas of the same places and sizes are laid out alike
laid_written : (name i : ℕ) (w : Value) (at : ℕ) (replicas : List Replica) (end : ℕ) → Laid at (map placed replicas) end → Laid at (map placed (map (with_written name i w) replicas)) end
laid_written name i w at [] end h = h
laid_written name i w at (r ∷ rest) end h = grind (arith, common_steps, with_written_pair, with_written_length, laid_written name i w (at + (length r.object.fields + 2)) rest end h.1)

pub pairs_written : (name i : ℕ) (w : Value) (replicas : List Replica) → map pair (map (with_written name i w) replicas) ≡ map pair replicas
pairs_written name i w replicas = map_same pair (with_written name i w) (with_written_pair name i w) replicas

pub replicas_write : (objects : List (ℕ × Object)) (size : ℕ) (Due Due' : Bool → ℕ → ℕ → ℕ → Type 0) (replicas : List Replica) (name i : ℕ) (object : Object) (v w : Value)
    → AreReplicas objects size Due replicas → lookup objects name ≡ Some object → slice_get object.fields i ≡ Some v
    → correspond (map pair replicas) v w ≡ true
    → ((raw : Bool) (p a j : ℕ) → Due raw p a j → ((a ≡ name) × (j ≡ i)) ⊎ Due' raw p a j)
    → AreReplicas objects size Due' (map (with_written name i w) replicas) × (replicas_end (map (with_written name i w) replicas) ≡ replicas_end replicas)
replicas_write objects size Due Due' replicas name i object v w h found is agrees due = (
  record {
    laid = subst (λ e. Laid 1 (map placed (map (with_written name i w) replicas)) e) (sym ends) (laid_written name i w 1 replicas (replicas_end replicas) h.laid);
    room = let r = h.room in omega (arith, ends);
    once = subst Distinct (sym (map_same (λ (r : Replica). r.original) (with_written name i w) (λ r. ap (λ (q : ℕ × ℕ). q.0) (with_written_pair name i w r)) replicas)) h.once;
    each = λ r k. let o = in_map_from (with_written name i w) r replicas k in
        subst (λ l. IsReplica objects l Due' r) (sym (map_same pair (with_written name i w) (with_written_pair name i w) replicas)) (subst (IsReplica objects (map pair replicas) Due') o.2 (each o.0 o.1));
  },
  ends,
)
  where
    ends : replicas_end (map (with_written name i w) replicas) ≡ replicas_end replicas
    ends = laid_end_is 1 (map placed (map (with_written name i w) replicas)) (replicas_end replicas) (laid_written name i w 1 replicas (replicas_end replicas) h.laid)

    each : (r : Replica) → In r replicas → IsReplica objects (map pair replicas) Due' (with_written name i w r)
    each r k = grind (arith, common_steps, length-set, get_set)

-- ---- moved values

abbrev pub HasReplica : Collection → Value → Type 0
HasReplica c Nil = Unit {0}
HasReplica c (Num n) = Unit {0}
HasReplica c (Ref a) = (r : Replica) × (replica_of c a ≡ Some r)

pub replica_in : (c : Collection) (a : ℕ) (r : Replica) → replica_of c a ≡ Some r → In r c.replicas × (r.original ≡ a)
replica_in c a r h = let f = find_some (λ (s : Replica). s.original == a) c.replicas r h in (f.0, eqb-true r.original a f.1)

pub replica_exists : (c : Collection) (r : Replica) → In r c.replicas → (s : Replica) × (replica_of c r.original ≡ Some s)
replica_exists c r k = find_exists (λ (s : Replica). s.original == r.original) c.replicas r k (eq-eqb r.original r.original refl)

-- a name and its replica are a pair
replica_pair : (c : Collection) (a : ℕ) (r : Replica) → replica_of c a ≡ Some r → In {X = ℕ × ℕ} (a, r.place) (pairs_of c)
replica_pair c a r h = let f = replica_in c a r h in subst (λ n. In {X = ℕ × ℕ} (n, r.place) (pairs_of c)) f.1 (in_map pair r c.replicas f.0)

pub moved_corresponds : (c : Collection) (v : Value) → HasReplica c v → correspond (pairs_of c) v (moved c v) ≡ true
moved_corresponds c v h = grind (arith, common_steps, in_paired, replica_pair)
