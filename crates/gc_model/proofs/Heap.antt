-- A heap whose objects lie back to back and whose references are their addresses.
use Rattle.std.proofs.lemmas.Grind.{common_steps}
use Rattle.std.proofs.Common.{◌≡◌, ◌≢◌, ◌⊎◌, inl, inr, ⊎_elim, ℕ, ◌+◌, ◌≤◌, ◌==◌, true, false, cond, List, [], ◌∷◌, ◌++◌, length, Some, None, slice_get, refl, ap, sym, ◌∙◌, subst, arith}
use Rattle.std.proofs.lemmas.Bool.{cases_Bool, cond-true, cond-false, eqb-true, eqb-false, eq-eqb, ne_eqb}
use Rattle.gc_graph.specs.Graph.{Value, Object, lookup, with_field, set_field}
use Rattle.gc_model.specs.State.{objects_end}
use Rattle.gc_model.specs.Members.{In}
use Rattle.gc_model.specs.Belonging.{Laid, IsNamed, RefersTo}
use Rattle.gc_model.proofs.Lists.{get_set, in_set}

pub refers_map : (P Q : ℕ → Type 0) → ((a : ℕ) → P a → Q a) → (v : Value) → RefersTo P v → RefersTo Q v
refers_map P Q f v h = grind (arith, common_steps)

-- ---- layout

pub laid_push : (at : ℕ) (objects : List (ℕ × Object)) (end : ℕ) (e : ℕ × Object) (end' : ℕ) → Laid at objects end → e.0 ≡ end → end' ≡ end + (length e.1.fields + 2) → Laid at (objects ++ e ∷ []) end'
laid_push at [] end e end' h k l = (k ∙ sym h, (let x : at ≡ end = h in omega arith))
laid_push at (d ∷ rest) end e end' h k l = (h.0, laid_push (at + (length d.1.fields + 2)) rest end e end' h.1 k l)

pub laid_end : (at : ℕ) (objects : List (ℕ × Object)) (end : ℕ) → Laid at objects end → at ≤ end
laid_end at [] end h = let x : at ≡ end = h in omega arith
laid_end at (e ∷ rest) end h = let k = laid_end (at + (length e.1.fields + 2)) rest end h.1 in omega arith

pub laid_end_is : (at : ℕ) (objects : List (ℕ × Object)) (end : ℕ) → Laid at objects end → objects_end at objects ≡ end
laid_end_is at [] end h = h
laid_end_is at (e ∷ rest) end h = laid_end_is (at + (length e.1.fields + 2)) rest end h.1

pub end_push : (at : ℕ) (objects : List (ℕ × Object)) (e : ℕ × Object) → objects_end at (objects ++ e ∷ []) ≡ objects_end at objects + (length e.1.fields + 2)
end_push at [] e = omega arith
end_push at (d ∷ rest) e = end_push (at + (length d.1.fields + 2)) rest e

-- an object's place lies within the heap
pub laid_range : (at : ℕ) (objects : List (ℕ × Object)) (end : ℕ) (e : ℕ × Object) → Laid at objects end → In e objects → (at ≤ e.0) × (e.0 + (length e.1.fields + 2) ≤ end)
laid_range at [] end e h k = absurd k
laid_range at (d ∷ rest) end e h (inl k) = grind (arith, common_steps, laid_end)
laid_range at (d ∷ rest) end e h (inr k) = let r = laid_range (at + (length d.1.fields + 2)) rest end e h.1 k in omega arith

-- two objects are the same, or one ends before the other begins
pub laid_apart : (at : ℕ) (objects : List (ℕ × Object)) (end : ℕ) (d e : ℕ × Object) → Laid at objects end → In d objects → In e objects → (d ≡ e) ⊎ ((d.0 + (length d.1.fields + 2) ≤ e.0) ⊎ (e.0 + (length e.1.fields + 2) ≤ d.0))
laid_apart at [] end d e h k l = absurd k
laid_apart at (c ∷ rest) end d e h (inl k) (inl l) = inl (sym k ∙ l)
laid_apart at (c ∷ rest) end d e h (inl k) (inr l) = grind (arith, common_steps, laid_range)
laid_apart at (c ∷ rest) end d e h (inr k) (inl l) = grind (arith, common_steps, laid_range)
laid_apart at (c ∷ rest) end d e h (inr k) (inr l) = laid_apart (at + (length c.1.fields + 2)) rest end d e h.1 k l

laid_same : (at : ℕ) (objects : List (ℕ × Object)) (end : ℕ) (d e : ℕ × Object) → Laid at objects end → In d objects → In e objects → d.0 ≡ e.0 → d ≡ e
laid_same at objects end d e h k l s = ⊎_elim (λ x. x) (λ y. absurd (⊎_elim (λ z. omega arith) (λ z. omega arith) y)) (laid_apart at objects end d e h k l)

-- writing a field keeps the layout
pub laid_set : (name i : ℕ) (v : Value) (at : ℕ) (objects : List (ℕ × Object)) (end : ℕ) → Laid at objects end → Laid at (set_field objects name i v) end
laid_set name i v at [] end h = h
laid_set name i v at (e ∷ rest) end h = grind (arith, common_steps, cases_Bool, laid_set name i v (at + (length e.1.fields + 2)) rest end h.1)

-- ---- look-ups

pub lookup_in : (objects : List (ℕ × Object)) (a : ℕ) (o : Object) → lookup objects a ≡ Some o → In (a, o) objects
lookup_in [] a o h = absurd cc
lookup_in (e ∷ rest) a o h = grind (arith, common_steps, lookup_in rest a o)

pub lookup_here : (e : ℕ × Object) (rest : List (ℕ × Object)) (a : ℕ) → e.0 ≡ a → lookup (e ∷ rest) a ≡ Some e.1
lookup_here e rest a h = cond-true (e.0 == a) (Some e.1) (lookup rest a) (eq-eqb e.0 a h)

pub lookup_there : (e : ℕ × Object) (rest : List (ℕ × Object)) (a : ℕ) → e.0 ≢ a → lookup (e ∷ rest) a ≡ lookup rest a
lookup_there e rest a h = cond-false (e.0 == a) (Some e.1) (lookup rest a) (ne_eqb e.0 a h)

pub lookup_named : (objects : List (ℕ × Object)) (a : ℕ) → IsNamed objects a → (o : Object) × (lookup objects a ≡ Some o)
lookup_named [] a h = absurd h.1
lookup_named (e ∷ rest) a h = ⊎_elim
    (λ t. (e.1, lookup_here e rest a (eqb-true e.0 a t)))
    (λ f. ⊎_elim
    (λ k. absurd (eqb-false e.0 a f (ap (λ (w : ℕ × Object). w.0) k)))
    (λ k. let r = lookup_named rest a (h.0, k) in (r.0, lookup_there e rest a (eqb-false e.0 a f) ∙ r.1))
    h.1)
    (cases_Bool (e.0 == a))

pub lookup_laid : (at : ℕ) (objects : List (ℕ × Object)) (end : ℕ) (a : ℕ) (o : Object) → Laid at objects end → In (a, o) objects → lookup objects a ≡ Some o
lookup_laid at objects end a o h k = grind (arith, common_steps, laid_same at objects end (a, (lookup_named objects a (o, k)).0) (a, o) h (lookup_in objects a (lookup_named objects a (o, k)).0 (lookup_named objects a (o, k)).1) k refl)

pub lookup_left : (objects more : List (ℕ × Object)) (a : ℕ) (o : Object) → lookup objects a ≡ Some o → lookup (objects ++ more) a ≡ Some o
lookup_left [] more a o h = absurd cc
lookup_left (e ∷ rest) more a o h = grind (arith, common_steps, lookup_here, lookup_there, lookup_left rest more a o)

-- ---- a written field

abbrev pub written_entry : ℕ → ℕ → Value → ℕ × Object → ℕ × Object
written_entry name i v = λ entry. (entry.0, cond (entry.0 == name) (with_field entry.1 i v) entry.1)

pub written_length : (name i : ℕ) (v : Value) (e : ℕ × Object) → length (written_entry name i v e).1.fields ≡ length e.1.fields
written_length name i v e = grind (arith, common_steps, cases_Bool)

pub written_kind : (name i : ℕ) (v : Value) (e : ℕ × Object) → (written_entry name i v e).1.kind ≡ e.1.kind
written_kind name i v e = grind (arith, common_steps, cases_Bool)

pub written_raw : (name i : ℕ) (v : Value) (e : ℕ × Object) → (written_entry name i v e).1.raw ≡ e.1.raw
written_raw name i v e = grind (arith, common_steps, cases_Bool)

pub written_in : (name i : ℕ) (v : Value) (e : ℕ × Object) (w : Value) → In w (written_entry name i v e).1.fields → (v ≡ w) ⊎ In w e.1.fields
written_in name i v e w h = grind (arith, common_steps, in_set, cases_Bool)

pub written_here : (name i : ℕ) (v : Value) (e : ℕ × Object) (w : Value) → In w (written_entry name i v e).1.fields → ((e.0 ≡ name) × (v ≡ w)) ⊎ In w e.1.fields
written_here name i v e w h = grind (arith, common_steps, in_set, cases_Bool)

pub written_get : (name i : ℕ) (v : Value) (e : ℕ × Object) (j : ℕ) (w : Value) → slice_get (written_entry name i v e).1.fields j ≡ Some w → (slice_get e.1.fields j ≡ Some w) ⊎ ((e.0 ≡ name) × (j ≡ i))
written_get name i v e j w h = grind (arith, common_steps, get_set, cases_Bool)

pub lookup_written : (name i : ℕ) (v : Value) (objects : List (ℕ × Object)) (a : ℕ) (o : Object) → lookup objects a ≡ Some o → lookup (set_field objects name i v) a ≡ Some (written_entry name i v (a, o)).1
lookup_written name i v [] a o h = absurd cc
lookup_written name i v (e ∷ rest) a o h = ⊎_elim there (beside (λ k. lookup_written name i v rest a o k)) (cases_Bool (e.0 == name))
  where
    written : ℕ × Object
    written = (e.0, with_field e.1 i v)

    is_it : e.0 ≡ a → e.1 ≡ o
    is_it n = cc (sym (lookup_here e rest a n) ∙ h)

    there : (e.0 == name) ≡ true → lookup (set_field (e ∷ rest) name i v) a ≡ Some (written_entry name i v (a, o)).1
    there t = grind (arith, common_steps, lookup_here, is_it, lookup_there)

    beside : (lookup rest a ≡ Some o → lookup (set_field rest name i v) a ≡ Some (written_entry name i v (a, o)).1) → (e.0 == name) ≡ false → lookup (set_field (e ∷ rest) name i v) a ≡ Some (written_entry name i v (a, o)).1
    beside more f = grind (arith, common_steps, lookup_here, is_it, lookup_there)

-- an object placed after all others
pub pushed_last : (objects : List (ℕ × Object)) (a name : ℕ) (o q : Object) → lookup objects a ≡ None → lookup (objects ++ (name, o) ∷ []) a ≡ Some q → o ≡ q
pushed_last [] a name o q none h = grind (arith, common_steps)
pushed_last (e ∷ rest) a name o q none h = grind (arith, common_steps, lookup_here, lookup_there, pushed_last rest a name o q)

-- an entry was there before, or is the one written
abbrev WasEntry : ℕ → ℕ → Value → List (ℕ × Object) → ℕ × Object → Type 0
WasEntry name i v objects e = (d : ℕ × Object) × In d objects × ((d ≡ e) ⊎ (written_entry name i v d ≡ e))

pub set_from : (name i : ℕ) (v : Value) (objects : List (ℕ × Object)) (e : ℕ × Object) → In e (set_field objects name i v) → WasEntry name i v objects e
set_from name i v [] e h = absurd h
set_from name i v (d ∷ rest) e h = ⊎_elim
    (λ t. first t (subst (In e) (cond-true (d.0 == name) ((d.0, with_field d.1 i v) ∷ rest) (d ∷ set_field rest name i v) t) h))
    (λ f. others (set_from name i v rest e) (subst (In e) (cond-false (d.0 == name) ((d.0, with_field d.1 i v) ∷ rest) (d ∷ set_field rest name i v) f) h))
    (cases_Bool (d.0 == name))
  where
    first : (d.0 == name) ≡ true → In e ((d.0, with_field d.1 i v) ∷ rest) → WasEntry name i v (d ∷ rest) e
    first t (inl k) = (d, inl refl, inr (ap (λ (o : Object). (d.0, o)) (cond-true (d.0 == name) (with_field d.1 i v) d.1 t) ∙ k))
    first t (inr k) = (e, inr k, inl refl)

    others : (In e (set_field rest name i v) → WasEntry name i v rest e) → In e (d ∷ set_field rest name i v) → WasEntry name i v (d ∷ rest) e
    others more (inl k) = (d, inl refl, inl k)
    others more (inr k) = let r = more k in (r.0, inr r.1, r.2)

-- names are kept
pub named_set : (name i : ℕ) (v : Value) (objects : List (ℕ × Object)) (a : ℕ) → IsNamed objects a → IsNamed (set_field objects name i v) a
named_set name i v objects a n =
    let o = lookup_named objects a n in
    ((written_entry name i v (a, o.0)).1, lookup_in (set_field objects name i v) a (written_entry name i v (a, o.0)).1 (lookup_written name i v objects a o.0 o.1))
