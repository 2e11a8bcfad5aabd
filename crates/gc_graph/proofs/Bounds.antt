-- Names stay below the next name, and objects stay short.
use Rattle.std.proofs.lemmas.Grind.{common_steps}
use Rattle.std.proofs.Common.{◌≡◌, ℕ, suc, zero, ◌+◌, ◌<◌, Bool, true, false, cond, ◌&&◌, ◌||◌, ◌==◌, List, [], ◌∷◌, ◌++◌, map, length, Option, Some, None, refl, ◌∙◌, ap, arith}
use Rattle.std.specs.Option.{unwrap_or}
use Rattle.std.specs.Prelude.{slice_get, slice_set, replicate, not, ⊤}
use Rattle.std.specs.List.{AllByRecursion, flat_map, list_any}
use Rattle.std.proofs.lemmas.List.{length-set, length-replicate}
use Rattle.std.proofs.lemmas.Bool.{ne_eqb}
use Rattle.gc_graph.specs.Slots.{place, roots_of}
use Rattle.gc_graph.specs.Graph.{Value, Nil, Num, Ref, Object, Graph, opening, lookup, object_of, field_of, root, set_root, set_field, with_field, first_value, new_object, add_object, names_of, IsUnused}
use Rattle.gc_graph.specs.Machine.{get_field, is_number, put_field, step, MakesObject}
use Rattle.gc_graph.specs.Bounded.{ValueBelow, AreBelow, AreShort}
use Rattle.gc_graph.specs.declared.reply.Reply.{Reply}
use Rattle.gc_graph.specs.declared.reply.Reply.TheVariants.{Done, NoNumber}
use Rattle.gc_graph.specs.declared.command.Op.{Op}
use Rattle.gc_graph.specs.declared.command.Op.TheVariants as ops

-- ---- the next name is unused

differ : (n : ℕ) (xs : List ℕ) → AllByRecursion (λ x. x < n) xs → list_any (λ other. other == n) xs ≡ false
differ n [] a = refl
differ n (x ∷ xs) a = ap (λ b. b || list_any (λ other. other == n) xs) (ne_eqb x n (λ e. (let less : x < n = a.0 in omega arith))) ∙ differ n xs a.1

all_append : (P : ℕ → Type 0) (xs ys : List ℕ) → AllByRecursion P xs → AllByRecursion P ys → AllByRecursion P (xs ++ ys)
all_append P [] ys a b = b
all_append P (x ∷ xs) ys a b = (a.0, all_append P xs ys a.1 b)

value_below : (n : ℕ) (v : Value) → ValueBelow n v → AllByRecursion (λ x. x < n) (names_of v)
value_below n v k = grind (arith, common_steps)

values_below : (n : ℕ) (vs : List Value) → AllByRecursion (ValueBelow n) vs → AllByRecursion (λ x. x < n) (flat_map names_of vs)
values_below n [] k = tt
values_below n (v ∷ vs) k = all_append _ (names_of v) (flat_map names_of vs) (value_below n v k.0) (values_below n vs k.1)

fields_below : (n : ℕ) (os : List (ℕ × Object)) → AllByRecursion (λ e. AllByRecursion (ValueBelow n) e.1.fields) os → AllByRecursion (λ x. x < n) (flat_map (λ entry. flat_map names_of entry.1.fields) os)
fields_below n [] k = tt
fields_below n (e ∷ os) k = all_append _ (flat_map names_of e.1.fields) (flat_map (λ entry. flat_map names_of entry.1.fields) os) (values_below n e.1.fields k.0) (fields_below n os k.1)

keys_below : (n : ℕ) (os : List (ℕ × Object)) → AllByRecursion (λ e. e.0 < n) os → AllByRecursion (λ x. x < n) (map (λ entry. entry.0) os)
keys_below n [] k = tt
keys_below n (e ∷ os) k = (k.0, keys_below n os k.1)

pub next_unused : (n : ℕ) (g : Graph) → AreBelow n g → IsUnused g n
next_unused n g below = differ n _ (all_append _ (map (λ entry. entry.0) g.objects ++ flat_map (λ entry. flat_map names_of entry.1.fields) g.objects) (flat_map names_of g.roots)
    (all_append _ (map (λ entry. entry.0) g.objects) (flat_map (λ entry. flat_map names_of entry.1.fields) g.objects) (keys_below n g.objects below.keys) (fields_below n g.objects below.fields)) (values_below n g.roots below.roots))

-- ---- names below the name after the next

later : (n : ℕ) (v : Value) → ValueBelow n v → ValueBelow (n + 1) v
later n v k = grind (arith, common_steps)

all_weaker : {X : Type 0} (P Q : X → Type 0) (xs : List X) → ((x : X) → P x → Q x) → AllByRecursion P xs → AllByRecursion Q xs
all_weaker P Q [] w a = tt
all_weaker P Q (x ∷ xs) w a = (w x a.0, all_weaker P Q xs w a.1)

pub all_push : {X : Type 0} (P : X → Type 0) (xs : List X) (x : X) → AllByRecursion P xs → P x → AllByRecursion P (xs ++ x ∷ [])
all_push P [] x a p = (p, tt)
all_push P (y ∷ xs) x a p = (a.0, all_push P xs x a.1 p)

all_set : {X : Type 0} (P : X → Type 0) (xs : List X) (i : ℕ) (x : X) → AllByRecursion P xs → P x → AllByRecursion P (slice_set xs i x)
all_set P [] i x a p = tt
all_set P (y ∷ xs) zero x a p = (p, a.1)
all_set P (y ∷ xs) (suc i) x a p = (a.0, all_set P xs i x a.1 p)

all_below : (n k : ℕ) (v : Value) → ValueBelow n v → AllByRecursion (ValueBelow n) (replicate k v)
all_below n zero v below = tt
all_below n (suc k) v below = (below, all_below n k v below)

-- ---- values that are found

value_at : (n : ℕ) (vs : List Value) (p : ℕ) → AllByRecursion (ValueBelow n) vs → ValueBelow n (unwrap_or (slice_get vs p) Nil)
value_at n [] p a = tt
value_at n (v ∷ vs) zero a = a.0
value_at n (v ∷ vs) (suc p) a = value_at n vs p a.1

abbrev pub OptionBelow : ℕ → Option Value → Type 0
OptionBelow n None = ⊤
OptionBelow n (Some v) = ValueBelow n v

item_at : (n : ℕ) (vs : List Value) (i : ℕ) → AllByRecursion (ValueBelow n) vs → OptionBelow n (slice_get vs i)
item_at n [] i a = tt
item_at n (v ∷ vs) zero a = a.0
item_at n (v ∷ vs) (suc i) a = item_at n vs i a.1

abbrev pub FieldsBelow : ℕ → Option Object → Type 0
FieldsBelow n None = ⊤
FieldsBelow n (Some o) = AllByRecursion (ValueBelow n) o.fields

found_below : (n : ℕ) (os : List (ℕ × Object)) (name : ℕ) → AllByRecursion (λ e. AllByRecursion (ValueBelow n) e.1.fields) os → FieldsBelow n (lookup os name)
found_below n [] name a = tt
found_below n (e ∷ os) name a = elim (e.0 == name) as (λ b. FieldsBelow n (cond b (Some e.1) (lookup os name))) [ true ↦ a.0 | false ↦ found_below n os name a.1 ]

target_below : (n : ℕ) (os : List (ℕ × Object)) (v : Value) → AllByRecursion (λ e. AllByRecursion (ValueBelow n) e.1.fields) os → FieldsBelow n (object_of os v)
target_below n os v a = grind (arith, common_steps, found_below)

field_below : (n : ℕ) (o : Option Object) (i : ℕ) → FieldsBelow n o → OptionBelow n (field_of o i)
field_below n None i a = tt
field_below n (Some o) i a = item_at n o.fields i a

-- ---- changes

root_set : (n : ℕ) (g : Graph) (p : ℕ) (v : Value) → AreBelow n g → ValueBelow n v → AreBelow n (set_root g p v)
root_set n g p v below h = record { keys = below.keys; fields = below.fields; roots = all_set (ValueBelow n) g.roots p v below.roots h }

set_keys : (n : ℕ) (os : List (ℕ × Object)) (name i : ℕ) (v : Value) → AllByRecursion (λ e. e.0 < n) os → AllByRecursion (λ e. e.0 < n) (set_field os name i v)
set_keys n [] name i v a = tt
set_keys n (e ∷ os) name i v a = elim (e.0 == name) as (λ b. AllByRecursion (λ (e : ℕ × Object). e.0 < n) (cond b ((e.0, with_field e.1 i v) ∷ os) (e ∷ set_field os name i v))) [ true ↦ a | false ↦ (a.0, set_keys n os name i v a.1) ]

set_fields : (n : ℕ) (os : List (ℕ × Object)) (name i : ℕ) (v : Value) → ValueBelow n v → AllByRecursion (λ e. AllByRecursion (ValueBelow n) e.1.fields) os → AllByRecursion (λ e. AllByRecursion (ValueBelow n) e.1.fields) (set_field os name i v)
set_fields n [] name i v h a = tt
set_fields n (e ∷ os) name i v h a = grind (arith, common_steps, all_set, set_fields n os name i v h a.1)

set_short : (os : List (ℕ × Object)) (name i : ℕ) (v : Value) → AllByRecursion (λ e. length e.1.fields < 65536) os → AllByRecursion (λ e. length e.1.fields < 65536) (set_field os name i v)
set_short [] name i v a = tt
set_short (e ∷ os) name i v a = grind (arith, common_steps, length-set, set_short os name i v a.1)

-- ---- commands that make no object

got_below : (n : ℕ) (g : Graph) (d : ℕ) (o : Option Object) (f : Option Value) → AreBelow n g → OptionBelow n f → AreBelow n (get_field g d o f).1
got_below n g d o f below h = grind (arith, common_steps, root_set)

put_below : (n : ℕ) (g : Graph) (target : Value) (o : Option Object) (f : Option Value) (i : ℕ) (v : Value) → AreBelow n g → ValueBelow n v → AreBelow n (put_field g target o f i v).1
put_below n g target o f i v below h = grind (arith, common_steps, set_keys, set_fields)

pub step_below : (n : ℕ) (g : Graph) (m : ℕ) (op : Op) (name : ℕ) → (MakesObject op → ⊥) → AreBelow n g → AreBelow n (step g m op name).1
step_below n g m (ops.New d kind len) name makes_none below = absurd (makes_none tt)
step_below n g m (ops.NewRaw d kind len) name makes_none below = absurd (makes_none tt)
step_below n g m (ops.Num d x) name makes_none below = root_set n g (place d m) (Num x) below tt
step_below n g m (ops.Nil d) name makes_none below = root_set n g (place d m) Nil below tt
step_below n g m (ops.Move d s) name makes_none below = root_set n g (place d m) (root g (place s m)) below (value_at n g.roots (place s m) below.roots)
step_below n g m (ops.Get d s i) name makes_none below =
    let target : Option Object = object_of g.objects (root g (place s m)) in
    got_below n g (place d m) target (field_of target i) below (field_below n target i (target_below n g.objects (root g (place s m)) below.fields))
step_below n g m (ops.Put s i t) name makes_none below =
    let target : Option Object = object_of g.objects (root g (place s m)) in
    put_below n g (root g (place s m)) target (field_of target i) i (root g (place t m)) below (value_at n g.roots (place t m) below.roots)
step_below n g m (ops.Same s t) name makes_none below = below
step_below n g m (ops.Look s) name makes_none below = below

put_short : (g : Graph) (target : Value) (o : Option Object) (f : Option Value) (i : ℕ) (v : Value) → AreShort g → AreShort (put_field g target o f i v).1
put_short g Nil o f i v short = short
put_short g (Num m) o f i v short = short
put_short g (Ref name) None f i v short = short
put_short g (Ref name) (Some o) None i v short = short
put_short g (Ref name) (Some o) (Some before) i v short = elim (o.raw && not (is_number v)) as (λ refused. AreShort (cond {A = Reply × Graph} refused (NoNumber, g) (Done, record g { objects = set_field g.objects name i v })).1) [
  | true ↦ short
  | false ↦ set_short g.objects name i v short
]

pub step_short : (g : Graph) (m : ℕ) (op : Op) (name : ℕ) → (MakesObject op → ⊥) → AreShort g → AreShort (step g m op name).1
step_short g m op name makes_none short = grind (arith, common_steps, put_short)

-- ---- a new object under the next name

pub make_below : (n : ℕ) (g : Graph) (raw : Bool) (p kind len : ℕ) → AreBelow n g → AreBelow (n + 1) (set_root (add_object g n (new_object raw kind len)) p (Ref n))
make_below n g raw p kind len below = grind (arith, common_steps, all_push, all_weaker, later, all_below, all_set)

pub make_short : (n : ℕ) (g : Graph) (raw : Bool) (p kind len : ℕ) → len < 65536 → AreShort g → AreShort (set_root (add_object g n (new_object raw kind len)) p (Ref n))
make_short n g raw p kind len small short = all_push (λ (e : ℕ × Object). length e.1.fields < 65536) g.objects (n, new_object raw kind len) short (let same : length (replicate len (first_value raw)) ≡ len = length-replicate len (first_value raw) in omega arith)

-- ---- the empty graph

pub opening_below : (mutators : ℕ) → AreBelow 0 (opening mutators)
opening_below mutators = record { keys = tt; fields = tt; roots = all_below 0 (roots_of mutators) Nil tt }
