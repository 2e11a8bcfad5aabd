-- The plain machine's map of records as the graph's objects.
use Rattle.std.proofs.lemmas.Grind.{common_steps}
use Rattle.std.proofs.Common.{◌≡◌, ℕ, suc, zero, ◌<◌, ◌≤◌, true, false, ◌==◌, List, [], ◌∷◌, ◌++◌, map, length, Some, None, refl, sym, ◌∙◌, ap, arith, is_some}
use Rattle.std.specs.Ordering.{nat_cmp, is_eq}
use Rattle.std.specs.BTreeMap.{insert_entry}
use Rattle.std.specs.BTreeMap as tree
use Rattle.std.specs.Map as entries
use Rattle.std.specs.List.{AllByRecursion}
use Rattle.std.proofs.lemmas.List.{length-map, map-set}
use Rattle.std.specs.Vec.{with_item}
use Rattle.std.proofs.lemmas.Bool.{lt-ltb, le-ltb, eq-eqb, ne_eqb, cases_order}
use Rattle.std.specs.Prelude.{slice_get, slice_set, replicate, option_map}
use Rattle.gc_graph.specs.Graph.{Value, Object, Graph, lookup, object_of, field_of, set_root, set_field, with_field}
use Rattle.gc_graph.specs.Machine.{view_of, get_field}
use Rattle.gc_graph.specs.declared.reply.View.{View}
use Rattle.gc_graph.specs.declared.reply.Reply.{Reply}
use Rattle.gc_graph.specs.declared.reply.Reply.TheVariants.{Saw}
use Rattle.gc_graph.specs.Records.{plain_value, object_of_record, named_object, objects_of}
use Rattle.gc_graph.specs.declared.objects.Record.{Record}
use Rattle.gc_graph.specs.declared.objects.PlainValue.{PlainValue}

at_key : (q k : ℕ) → is_eq (nat_cmp q k) ≡ (k == q)
at_key q k = grind (arith, common_steps, cases_order, le-ltb, eq-eqb, lt-ltb, ne_eqb)

pub found_record : (es : List (ℕ × Record)) (q : ℕ) → option_map object_of_record (entries.lookup (tree.is_at (nat_cmp q)) es) ≡ lookup (objects_of es) q
found_record [] q = refl
found_record (e ∷ es) q = grind (arith, common_steps, at_key, found_record es q)

pub record_keys : (n : ℕ) (es : List (ℕ × Record)) → AllByRecursion (λ e. e.0 < n) (objects_of es) → AllByRecursion (λ e. e.0 < n) es
record_keys n [] k = tt
record_keys n (e ∷ es) k = (k.0, record_keys n es k.1)

-- a key above all goes to the end
pub pushed : (es : List (ℕ × Record)) (k : ℕ) (r : Record) → AllByRecursion (λ e. e.0 < k) es → insert_entry nat_cmp es k r ≡ es ++ (k, r) ∷ []
pushed [] k r all = refl
pushed (e ∷ es) k r all = grind (arith, common_steps, le-ltb, ne_eqb, pushed es k r all.1)

pub held_each : (n : ℕ) (v : PlainValue) → map plain_value (replicate n v) ≡ replicate n (plain_value v)
held_each zero v = refl
held_each (suc n) v = ap (λ vs. plain_value v ∷ vs) (held_each n v)

pub entries_push : (es : List (ℕ × Record)) (e : ℕ × Record) → objects_of (es ++ e ∷ []) ≡ objects_of es ++ named_object e ∷ []
entries_push [] e = refl
entries_push (x ∷ es) e = ap (λ os. named_object x ∷ os) (entries_push es e)

pub object_short : (os : List (ℕ × Object)) (q : ℕ) (o : Object) → AllByRecursion (λ e. length e.1.fields < 65536) os → Some o ≡ lookup os q → length o.fields < 65536
object_short [] q o all e = absurd (let no : Some o ≡ None = e in cc)
object_short (x ∷ os) q o all e = grind (arith, common_steps, object_short os q o)

-- ---- a written field

written_object : (r : Record) (i : ℕ) (v : PlainValue) → object_of_record (record { raw = r.raw; kind = r.kind; fields = with_item r.fields i v }) ≡ with_field (object_of_record r) i (plain_value v)
written_object r i v = (let fields : map plain_value (slice_set r.fields.items i v) ≡ slice_set (map plain_value r.fields.items) i (plain_value v) = map-set plain_value r.fields.items i v in λ j. record { raw = r.raw; kind = r.kind; fields = fields j })

pub written_entries : (es : List (ℕ × Record)) (q i : ℕ) (r : Record) (v : PlainValue) → entries.lookup (tree.is_at (nat_cmp q)) es ≡ Some r
    → objects_of (entries.set_value (tree.is_at (nat_cmp q)) es (record { raw = r.raw; kind = r.kind; fields = with_item r.fields i v })) ≡ set_field (objects_of es) q i (plain_value v)
written_entries [] q i r v e = absurd (let no : None ≡ Some r = e in cc)
written_entries (x ∷ es) q i r v e = grind (arith, common_steps, written_object, at_key, written_entries es q i r v)

get_there : (xs : List Value) (i : ℕ) → i < length xs → is_some (slice_get xs i) ≡ true
get_there [] i h = absurd (omega arith)
get_there (x ∷ xs) zero h = refl
get_there (x ∷ xs) (suc i) h = get_there xs i (omega arith)

get_past : (xs : List Value) (i : ℕ) → length xs ≤ i → is_some (slice_get xs i) ≡ false
get_past [] i h = refl
get_past (x ∷ xs) zero h = absurd (omega arith)
get_past (x ∷ xs) (suc i) h = get_past xs i (omega arith)

pub field_there : (es : List (ℕ × Record)) (q i n : ℕ) (r : Record) → Some r ≡ entries.lookup (tree.is_at (nat_cmp q)) es → n ≡ length r.fields.items → i < n → true ≡ is_some (field_of (lookup (objects_of es) q) i)
field_there es q i n r e l h =
    sym (ap (λ o. is_some (field_of o i)) (sym (found_record es q) ∙ ap (option_map object_of_record) (sym e)) ∙ get_there (map plain_value r.fields.items) i (let m : length (map plain_value r.fields.items) ≡ length r.fields.items = length-map r.fields.items plain_value in omega arith))

pub field_past : (es : List (ℕ × Record)) (q i n : ℕ) (r : Record) → Some r ≡ entries.lookup (tree.is_at (nat_cmp q)) es → n ≡ length r.fields.items → n ≤ i → false ≡ is_some (field_of (lookup (objects_of es) q) i)
field_past es q i n r e l h =
    sym (ap (λ o. is_some (field_of o i)) (sym (found_record es q) ∙ ap (option_map object_of_record) (sym e)) ∙ get_past (map plain_value r.fields.items) i (let m : length (map plain_value r.fields.items) ≡ length r.fields.items = length-map r.fields.items plain_value in omega arith))

pub record_gone : (es : List (ℕ × Record)) (q i : ℕ) → None ≡ entries.lookup (tree.is_at (nat_cmp q)) es → false ≡ is_some (field_of (lookup (objects_of es) q) i)
record_gone es q i e = sym (ap (λ o. is_some (field_of o i)) (sym (found_record es q) ∙ ap (option_map object_of_record) (sym e)))

-- ---- a field that exists

pub got : (g h : Graph) (d i : ℕ) (target : Value) (o : Object) (v : Value) (view : View) → object_of g.objects target ≡ Some o → field_of (Some o) i ≡ Some v
    → view ≡ view_of g.objects v → h ≡ set_root g d v → ◌≡◌ {A = Reply × Graph} (Saw view, h) (get_field g d (object_of g.objects target) (field_of (object_of g.objects target) i))
got g h d i target o v view object field seen taken = grind (arith, common_steps)
