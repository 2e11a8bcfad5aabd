-- A mutator's command keeps the heap well formed, and changes no field but the one that it writes.
use Rattle.std.proofs.lemmas.Grind.{common_steps}
use Rattle.std.proofs.Common.{◌≡◌, ◌⊎◌, inl, inr, ⊎_elim, ℕ, ◌+◌, ◌-◌, ◌<◌, ◌≤◌, Bool, true, false, ◌&&◌, ap, ◌∙◌, List, [], ◌∷◌, ◌++◌, map, length, Option, Some, None, slice_get, refl, sym, subst, arith, rules}
use Rattle.std.specs.Prelude.{not}
use Rattle.std.proofs.lemmas.Bool.{cond_both}
use Rattle.std.proofs.lemmas.List.{length-replicate}
use Rattle.gc_graph.specs.Slots.{place}
use Rattle.gc_graph.specs.Graph.{Value, Nil, Num, Ref, Object, Graph, lookup, object_of, field_of, root, set_root, add_object, first_value, new_object, set_field, names_of}
use Rattle.gc_graph.specs.Machine.{words_taken, step, get_field, is_number, put_field}
use Rattle.gc_model.specs.Runs.{HasRange}
use Rattle.gc_model.specs.Steps.{written}
use Rattle.gc_model.specs.Members.{In}
use Rattle.gc_model.specs.Belonging.{IsNamed, RefersTo, IsObject, HasRawNumbers, IsSpaceGraph, HasField}
use Rattle.gc_graph.specs.declared.command.Op.{Op}
use Rattle.gc_graph.specs.declared.command.Op.TheVariants as ops
use Rattle.gc_graph.specs.declared.reply.Reply.{Reply}
use Rattle.gc_graph.specs.declared.reply.Reply.TheVariants.{Full, Done}
use Rattle.gc_graph.proofs.Public.{lookup_set_none}
use Rattle.gc_model.proofs.Lists.{in_left, in_right, in_push, in_set, in_replicate, get_in, get_past}
use Rattle.gc_model.proofs.Heap.{refers_map, laid_push, laid_set, lookup_in, lookup_left, lookup_written, pushed_last, set_from, named_set, written_entry, written_length, written_kind, written_raw, written_in, written_here, written_get}

-- an object before and after; only these fields may differ
pub record Still (objects : List (ℕ × Object)) (Touched : ℕ → Type 0) (a : ℕ) (o : Object) : Type 0 where
  pub now : Object
  pub found : lookup objects a ≡ Some now
  pub raw : now.raw ≡ o.raw
  pub kind : now.kind ≡ o.kind
  pub len : length now.fields ≡ length o.fields
  pub fields : (j : ℕ) (w : Value) → slice_get now.fields j ≡ Some w → (slice_get o.fields j ≡ Some w) ⊎ Touched j

abbrev pub Evolves : List (ℕ × Object) → List (ℕ × Object) → (ℕ → ℕ → Type 0) → Type 0
Evolves before later Touched = (a : ℕ) (o : Object) → lookup before a ≡ Some o → Still later (Touched a) a o

pub unchanged : (objects : List (ℕ × Object)) (Touched : ℕ → ℕ → Type 0) → Evolves objects objects Touched
unchanged objects Touched a o h = record { now = o; found = h; raw = refl; kind = refl; len = refl; fields = λ j w k. inl k }

object_more : (before later : List (ℕ × Object)) (o : Object) → ((a : ℕ) → IsNamed before a → IsNamed later a) → IsObject before o → IsObject later o
object_more before later o more h = record { kind = h.kind; len = h.len; fields = λ v k. refers_map (IsNamed before) (IsNamed later) more v (h.fields v k) }

-- ---- raw objects keep their numbers

suited : (raw number : Bool) → raw ≡ true → (raw && not number) ≡ false → number ≡ true
suited raw number e f = grind (arith, common_steps)

numbers_set : (objects : List (ℕ × Object)) (name i : ℕ) (v : Value) (o : Object) → HasRawNumbers objects → lookup objects name ≡ Some o → (o.raw && not (is_number v)) ≡ false → HasRawNumbers (set_field objects name i v)
numbers_set objects name i v o h is suits a q found raw w k = go (lookup objects a) refl
  where
    none_left : lookup objects a ≡ None → lookup (set_field objects name i v) a ≡ None
    none_left e = lookup_set_none objects name i v a e

    go : (x : Option Object) → lookup objects a ≡ x → is_number w ≡ true
    go None e = absurd (let no : None ≡ Some q = sym (none_left e) ∙ found in cc)
    go (Some p) e =
        let same : (written_entry name i v (a, p)).1 ≡ q = cc (sym (lookup_written name i v objects a p e) ∙ found) in
        let was : p.raw ≡ true = sym (written_raw name i v (a, p)) ∙ (ap (λ (x : Object). x.raw) same ∙ raw) in
        ⊎_elim
        (λ x. let one : o ≡ p = cc (sym is ∙ (sym (ap (lookup objects) x.0) ∙ e)) in
        subst (λ u. is_number u ≡ true) x.1 (suited o.raw (is_number v) (ap (λ (x : Object). x.raw) one ∙ was) suits))
        (λ x. h a p e was w x)
        (written_here name i v (a, p) w (subst (λ (x : Object). In w x.fields) (sym same) k))

numbers_push : (objects : List (ℕ × Object)) (name : ℕ) (o : Object) → HasRawNumbers objects → (o.raw ≡ true → (v : Value) → In v o.fields → is_number v ≡ true) → HasRawNumbers (objects ++ (name, o) ∷ [])
numbers_push objects name o h own a q found raw w k = grind (arith, common_steps, lookup_left, pushed_last)

new_numbers : (raw : Bool) (kind len : ℕ) → raw ≡ true → (v : Value) → In v (new_object raw kind len).fields → is_number v ≡ true
new_numbers raw kind len is v k = subst (λ u. is_number u ≡ true) (in_replicate v (first_value raw) len k) (subst (λ b. is_number (first_value b) ≡ true) (sym is) refl)

put_numbers : (g : Graph) (v : Value) (target : Option Object) (found : Option Value) (i : ℕ) (w : Value) → object_of g.objects v ≡ target → HasRawNumbers g.objects → HasRawNumbers (put_field g v target found i w).1.objects
put_numbers g v target found i w is h = grind (arith, common_steps, cond_both, numbers_set)

get_numbers : (g : Graph) (d : ℕ) (target : Option Object) (found : Option Value) → HasRawNumbers g.objects → HasRawNumbers (get_field g d target found).1.objects
get_numbers g d target found h = grind (arith, common_steps)

pub step_numbers : (g : Graph) (m : ℕ) (op : Op) (name : ℕ) → HasRawNumbers g.objects → HasRawNumbers (step g m op name).1.objects
step_numbers g m (ops.New d kind len) name h = numbers_push g.objects name (new_object false kind len) h (new_numbers false kind len)
step_numbers g m (ops.NewRaw d kind len) name h = numbers_push g.objects name (new_object true kind len) h (new_numbers true kind len)
step_numbers g m (ops.Num d n) name h = h
step_numbers g m (ops.Nil d) name h = h
step_numbers g m (ops.Move d s) name h = h
step_numbers g m (ops.Get d s i) name h = get_numbers g (place d m) _ _ h
step_numbers g m (ops.Put s i t) name h = put_numbers g (root g (place s m)) _ _ i (root g (place t m)) refl h
step_numbers g m (ops.Same s t) name h = h
step_numbers g m (ops.Look s) name h = h

keeps_root : (size free : ℕ) (g : Graph) (d : ℕ) (v : Value) → IsSpaceGraph size free g → RefersTo (IsNamed g.objects) v → IsSpaceGraph size free (set_root g d v)
keeps_root size free g d v h f = grind (arith, common_steps, in_set)

root_fine : (size free : ℕ) (g : Graph) (p : ℕ) → IsSpaceGraph size free g → RefersTo (IsNamed g.objects) (root g p)
root_fine size free g p h = grind (arith, common_steps, get_in)

field_fine : (size free : ℕ) (g : Graph) (v : Value) (i : ℕ) (w : Value) → IsSpaceGraph size free g → field_of (object_of g.objects v) i ≡ Some w → RefersTo (IsNamed g.objects) w
field_fine size free g Nil i w h e = absurd cc
field_fine size free g (Num n) i w h e = absurd cc
field_fine size free g (Ref a) i w h e = go (lookup g.objects a) refl e
  where
    go : (o : Option Object) → lookup g.objects a ≡ o → field_of o i ≡ Some w → RefersTo (IsNamed g.objects) w
    go None k l = absurd cc
    go (Some o) k l = (h.objects a o (lookup_in g.objects a o k)).fields w (get_in w o.fields i l)

keeps_get : (size free : ℕ) (g : Graph) (d : ℕ) (target : Option Object) (found : Option Value) → IsSpaceGraph size free g → ((v : Value) → found ≡ Some v → RefersTo (IsNamed g.objects) v) → IsSpaceGraph size free (get_field g d target found).1
keeps_get size free g d None found h f = h
keeps_get size free g d (Some o) None h f = h
keeps_get size free g d (Some o) (Some v) h f = keeps_root size free g d v h (f v refl)

keeps_field : (size free : ℕ) (g : Graph) (name i : ℕ) (v : Value) → IsSpaceGraph size free g → RefersTo (IsNamed g.objects) v → HasRawNumbers (set_field g.objects name i v) → IsSpaceGraph size free (record g { objects = set_field g.objects name i v })
keeps_field size free g name i v h f numbers = record {
  high = h.high;
  room = h.room;
  laid = laid_set name i v 1 g.objects (size - free) h.laid;
  objects = λ a o k. let r = set_from name i v g.objects (a, o) k in ⊎_elim
      (λ e. subst (λ (x : ℕ × Object). IsObject later x.1) e (object_more g.objects later r.0.1 more (h.objects r.0.0 r.0.1 r.1)))
      (λ e. subst (λ (x : ℕ × Object). IsObject later x.1) e (entry r.0 r.1))
      r.2;
  roots = λ w k. refers_map (IsNamed g.objects) (IsNamed later) more w (h.roots w k);
  numbers = numbers;
}
  where
    later : List (ℕ × Object)
    later = set_field g.objects name i v

    more : (a : ℕ) → IsNamed g.objects a → IsNamed later a
    more a n = named_set name i v g.objects a n

    entry : (e : ℕ × Object) → In e g.objects → IsObject later (written_entry name i v e).1
    entry e k = let ok = h.objects e.0 e.1 k in record {
      kind = subst (λ n. n < 256) (sym (written_kind name i v e)) ok.kind;
      len = subst (λ n. n < 65536) (sym (written_length name i v e)) ok.len;
      fields = λ w l. refers_map (IsNamed g.objects) (IsNamed later) more w (⊎_elim (λ x. subst (RefersTo (IsNamed g.objects)) x f) (ok.fields w) (written_in name i v e w l));
    }

keeps_put : (size free : ℕ) (g : Graph) (v : Value) (target : Option Object) (found : Option Value) (i : ℕ) (w : Value) → IsSpaceGraph size free g → RefersTo (IsNamed g.objects) w → object_of g.objects v ≡ target → IsSpaceGraph size free (put_field g v target found i w).1
keeps_put size free g Nil target found i w h f is = h
keeps_put size free g (Num n) target found i w h f is = h
keeps_put size free g (Ref a) None found i w h f is = h
keeps_put size free g (Ref a) (Some o) None i w h f is = h
keeps_put size free g (Ref a) (Some o) (Some before) i w h f is = cond_both (o.raw && not (is_number w)) _ _ (λ (next : Reply × Graph). IsSpaceGraph size free next.1)
    (λ t. h)
    (λ t. keeps_field size free g a i w h f (numbers_set g.objects a i w o h.numbers is t))

keeps_new : (size free : ℕ) (g : Graph) (raw : Bool) (d kind len name : ℕ) → IsSpaceGraph size free g → kind < 256 → len < 65536 → len + 2 ≤ free → name ≡ size - free
    → IsSpaceGraph size (free - (len + 2)) (set_root (add_object g name (new_object raw kind len)) d (Ref name))
keeps_new size free g raw d kind len name h k l fits is = record {
  high = h.high;
  room = let r = h.room in omega arith;
  laid = laid_push 1 g.objects (size - free) (name, object) (size - (free - (len + 2))) h.laid is (let r = h.room in omega (arith, length-replicate len (first_value raw)));
  objects = λ a o x. ⊎_elim
      (λ y. object_more g.objects (g.objects ++ (name, object) ∷ []) o more (h.objects a o y))
      (λ y. subst (λ (e : ℕ × Object). IsObject (g.objects ++ (name, object) ∷ []) e.1) y fresh)
      (in_push (a, o) (name, object) g.objects x);
  roots = λ w x. ⊎_elim
      (λ e. subst (RefersTo (IsNamed (g.objects ++ (name, object) ∷ []))) e (object, in_right (name, object) g.objects ((name, object) ∷ []) (inl refl)))
      (λ y. refers_map (IsNamed g.objects) (IsNamed (g.objects ++ (name, object) ∷ [])) more w (h.roots w y))
      (in_set w g.roots d (Ref name) x);
  numbers = numbers_push g.objects name (new_object raw kind len) h.numbers (new_numbers raw kind len);
}
  where
    first_fine : (b : Bool) → RefersTo (IsNamed (g.objects ++ (name, new_object raw kind len) ∷ [])) (first_value b)
    first_fine b = grind (arith, common_steps)

    object : Object
    object = new_object raw kind len

    more : (a : ℕ) → IsNamed g.objects a → IsNamed (g.objects ++ (name, object) ∷ []) a
    more a n = (n.0, in_left (a, n.0) g.objects ((name, object) ∷ []) n.1)

    fresh : IsObject (g.objects ++ (name, object) ∷ []) object
    fresh = grind (arith, common_steps, length-replicate, in_replicate, first_fine)

-- no words are taken
at_free : (size free : ℕ) (next : Graph) → IsSpaceGraph size free next → IsSpaceGraph size (free - 0) next
at_free size free next k = let e : free ≡ free - 0 = omega arith in subst (λ f. IsSpaceGraph size f next) e k

-- a command for which there is room keeps the heap well formed
pub step_keeps : (size free : ℕ) (g : Graph) (m : ℕ) (op : Op) (name : ℕ) → IsSpaceGraph size free g → HasRange op → words_taken op ≤ free → name ≡ size - free
    → IsSpaceGraph size (free - words_taken op) (step g m op name).1
step_keeps size free g m (ops.New d kind len) name h r fits is = keeps_new size free g false (place d m) kind len name h r.0 r.1 fits is
step_keeps size free g m (ops.NewRaw d kind len) name h r fits is = keeps_new size free g true (place d m) kind len name h r.0 r.1 fits is
step_keeps size free g m (ops.Num d n) name h r fits is = at_free size free _ (keeps_root size free g (place d m) (Num n) h tt)
step_keeps size free g m (ops.Nil d) name h r fits is = at_free size free _ (keeps_root size free g (place d m) Nil h tt)
step_keeps size free g m (ops.Move d s) name h r fits is = at_free size free _ (keeps_root size free g (place d m) (root g (place s m)) h (root_fine size free g (place s m) h))
step_keeps size free g m (ops.Get d s i) name h r fits is = search (rules, at_free, keeps_get, field_fine)
step_keeps size free g m (ops.Put s i t) name h r fits is = search (rules, at_free, keeps_put, root_fine)
step_keeps size free g m (ops.Same s t) name h r fits is = at_free size free _ h
step_keeps size free g m (ops.Look s) name h r fits is = at_free size free _ h

-- ---- objects stay the same except for the field that a command writes

abbrev pub WrittenBy : Graph → ℕ → Op → Reply → ℕ → ℕ → Type 0
WrittenBy g m op reply a j = In (a, j) (written g m op reply)

get_evolves : (g : Graph) (Touched : Reply → ℕ → ℕ → Type 0) (d : ℕ) (target : Option Object) (found : Option Value) → Evolves g.objects (get_field g d target found).1.objects (Touched (get_field g d target found).0)
get_evolves g Touched d target found = grind (arith, common_steps, unchanged)

set_evolves : (objects : List (ℕ × Object)) (Touched : ℕ → ℕ → Type 0) (name i : ℕ) (v : Value) → Touched name i → Evolves objects (set_field objects name i v) Touched
set_evolves objects Touched name i v t a o k = record {
  now = (written_entry name i v (a, o)).1;
  found = lookup_written name i v objects a o k;
  raw = written_raw name i v (a, o);
  kind = written_kind name i v (a, o);
  len = written_length name i v (a, o);
  fields = λ j w l. ⊎_elim (λ x. inl x) (λ y. inr (subst (λ n. Touched n j) (sym y.0) (subst (Touched name) (sym y.1) t))) (written_get name i v (a, o) j w l);
}

put_evolves : (g : Graph) (Touched : Reply → ℕ → ℕ → Type 0) (v : Value) (target : Option Object) (found : Option Value) (i : ℕ) (w : Value) → ((name : ℕ) → v ≡ Ref name → Touched Done name i) → Evolves g.objects (put_field g v target found i w).1.objects (Touched (put_field g v target found i w).0)
put_evolves g Touched v target found i w t = grind (arith, common_steps, unchanged, cond_both, set_evolves)

-- for every name of a new object
pub step_evolves : (g : Graph) (m : ℕ) (op : Op) (name : ℕ) → Evolves g.objects (step g m op name).1.objects (WrittenBy g m op (step g m op name).0)
step_evolves g m (ops.NewRaw d kind len) name = λ a o x. record { now = o; found = lookup_left g.objects ((name, new_object true kind len) ∷ []) a o x; raw = refl; kind = refl; len = refl; fields = λ j w y. inl y }
step_evolves g m (ops.New d kind len) name = λ a o x. record { now = o; found = lookup_left g.objects ((name, new_object false kind len) ∷ []) a o x; raw = refl; kind = refl; len = refl; fields = λ j w y. inl y }
step_evolves g m (ops.Num d n) name = unchanged g.objects _
step_evolves g m (ops.Nil d) name = unchanged g.objects _
step_evolves g m (ops.Move d s) name = unchanged g.objects _
step_evolves g m (ops.Get d s i) name = get_evolves g (WrittenBy g m (ops.Get d s i)) (place d m) _ _
step_evolves g m (ops.Put s i t) name = put_evolves g (WrittenBy g m (ops.Put s i t)) (root g (place s m)) _ _ i (root g (place t m))
    (λ n e. subst (λ (v : Value). In {X = ℕ × ℕ} (n, i) (map (λ k. (k, i)) (names_of v))) (sym e) (inl refl))
step_evolves g m (ops.Same s t) name = unchanged g.objects _
step_evolves g m (ops.Look s) name = unchanged g.objects _

-- ---- the field that a command writes is there

pub field_stays : (before later : List (ℕ × Object)) (Touched : ℕ → ℕ → Type 0) (a i : ℕ) → Evolves before later Touched → HasField before a i → HasField later a i
field_stays before later Touched a i evolves h = let still = evolves a h.0 h.1 in (still.now, still.found, (let l = still.len in let k = h.2 in omega arith))

pub written_there : (g : Graph) (m : ℕ) (op : Op) (name a j : ℕ) → WrittenBy g m op (step g m op name).0 a j → HasField g.objects a j
written_there g m op name a j h = grind (arith, common_steps, get_past)

pub full_writes_nothing : (g : Graph) (m : ℕ) (op : Op) (a j : ℕ) → WrittenBy g m op Full a j → ⊥
full_writes_nothing g m op a j h = grind (arith, common_steps)
