-- Commands keep two graphs matched, and their replies are the same.
use Rattle.std.proofs.lemmas.Grind.{common_steps}
use Rattle.std.proofs.Common.{◌≡◌, ℕ, suc, zero, Bool, true, false, cond, ◌&&◌, ◌==◌, List, [], ◌∷◌, ◌++◌, map, replicate, Option, Some, None, is_some, refl, sym, ◌∙◌, ap, subst, inl, inr, arith}
use Rattle.std.specs.Prelude.{slice_get, not}
use Rattle.std.specs.Option.{unwrap_or}
use Rattle.std.specs.List.{AllZip, AllByRecursion, flat_map, list_any}
use Rattle.std.proofs.lemmas.Bool.{eqb-true, eqb-false, eq-eqb, ne_eqb, cases_Bool, both_ways, and_from, and_right}
use Rattle.gc_graph.specs.Slots.{place}
use Rattle.gc_graph.specs.Graph.{Value, Nil, Ref, Object, Graph, lookup, object_of, field_of, root, set_root, first_value, new_object, add_object, set_field, names_of, IsUnused}
use Rattle.gc_graph.specs.Machine.{view_of, view_of_object, same, is_number, get_field, put_field, step}
use Rattle.gc_graph.specs.Correspond.{paired, correspond, Corresponding}
use Rattle.gc_graph.proofs.Matching.{Alike, nils, numbers, partners, without_objects, ObjectsAlike, Matched}
use Rattle.gc_graph.specs.declared.command.Op.{Op}
use Rattle.gc_graph.specs.declared.command.Op.TheVariants as ops
use Rattle.gc_graph.specs.declared.reply.Reply.{Reply}
use Rattle.gc_graph.specs.declared.reply.Reply.TheVariants.{Made, Done, NoNumber, Saw, Yes, No}
use Rattle.gc_graph.proofs.Lookups.{paired_cases, paired_more, paired_here, lookup_push_other, lookup_push_same, with_field_option, lookup_set_same, lookup_set_other, lookup_set_none, zip_weaker, zip_map, zip_set, Together, zip_get, zip_length, any_append, Avoids, avoids_each, not_a_key, FieldsAvoid, fields_avoid}

first_alike : (pairs : List (ℕ × ℕ)) (os qs : List (ℕ × Object)) (raw : Bool) → Alike pairs os qs (first_value raw) (first_value raw)
first_alike pairs os qs raw = grind (arith, common_steps, numbers, nils)

-- the same reply, and graphs that are matched again
abbrev pub AlikeAfter : Reply × Graph → Reply × Graph → Type 0
AlikeAfter x y = (x.0 ≡ y.0) × (after : List (ℕ × ℕ)) × Matched after x.1 y.1

module _ (pairs : List (ℕ × ℕ)) (g h : Graph) (matched : Matched pairs g h) where
  roots_alike : (v w : Option Value) → Together (Alike pairs g.objects h.objects) v w → Alike pairs g.objects h.objects (unwrap_or v Nil) (unwrap_or w Nil)
  roots_alike v w t = grind (arith, common_steps, nils)

  root_alike : (p : ℕ) → Alike pairs g.objects h.objects (root g p) (root h p)
  root_alike p = roots_alike (slice_get g.roots p) (slice_get h.roots p) (zip_get _ g.roots h.roots p matched.roots)

  -- ---- objects

  abbrev BothOrNone : Option Object → Option Object → Type 0
  BothOrNone o q = Together (λ o q. (o.raw ≡ q.raw) × (o.kind ≡ q.kind) × AllZip (Alike pairs g.objects h.objects) o.fields q.fields) o q

  together : (o q : Option Object) → ObjectsAlike pairs g.objects h.objects o q → BothOrNone o q
  together o q a = grind (arith, common_steps)

  neither : (o q : Option Object) → o ≡ None → q ≡ None → BothOrNone o q
  neither o q e f = grind (arith, common_steps)

  target_alike : {v w : Value} → Alike pairs g.objects h.objects v w → BothOrNone (object_of g.objects v) (object_of h.objects w)
  target_alike nils = tt
  target_alike (numbers n) = tt
  target_alike (partners a b p) = together (lookup g.objects a) (lookup h.objects b) (matched.objects a b p)
  target_alike (without_objects a b e f) = neither (lookup g.objects a) (lookup h.objects b) e f

  field_alike : (o q : Option Object) (i : ℕ) → BothOrNone o q → Together (Alike pairs g.objects h.objects) (field_of o i) (field_of q i)
  field_alike o q i t = grind (arith, common_steps, zip_get)

  -- ---- views

  object_view : (o q : Option Object) → BothOrNone o q → view_of_object o ≡ view_of_object q
  object_view o q t = grind (arith, common_steps, zip_length)

  view_alike : {v w : Value} → Alike pairs g.objects h.objects v w → view_of g.objects v ≡ view_of h.objects w
  view_alike nils = refl
  view_alike (numbers n) = refl
  view_alike (partners a b p) = object_view (lookup g.objects a) (lookup h.objects b) (target_alike (partners a b p))
  view_alike (without_objects a b e f) = object_view (lookup g.objects a) (lookup h.objects b) (target_alike (without_objects a b e f))

  absent : (o : Option Object) → o ≡ None → is_some o ≡ false
  absent o e = grind (arith, common_steps)

  -- there is a name on the left exactly if there is one on the right
  same_partners : (a b x y : ℕ) → paired pairs a b ≡ true → paired pairs x y ≡ true
      → ((a == x) && is_some (lookup g.objects a)) ≡ ((b == y) && is_some (lookup h.objects b))
  same_partners a b x y p q = grind (arith, common_steps, cases_Bool, eqb-true, eq-eqb, and_from, ne_eqb, eqb-false)

  -- a name with an object is not a name without one
  not_gone : (a b x y : ℕ) → paired pairs a b ≡ true → lookup g.objects x ≡ None → lookup h.objects y ≡ None
      → ((a == x) && is_some (lookup g.objects a)) ≡ ((b == y) && is_some (lookup h.objects b))
  not_gone a b x y p e f = grind (arith, common_steps, absent, ne_eqb, both_ways)

  gone : (a b x y : ℕ) → lookup g.objects a ≡ None → lookup h.objects b ≡ None
      → ((a == x) && is_some (lookup g.objects a)) ≡ ((b == y) && is_some (lookup h.objects b))
  gone a b x y e f = and_right (a == x) (is_some (lookup g.objects a)) (absent _ e) ∙ sym (and_right (b == y) (is_some (lookup h.objects b)) (absent _ f))

  same_alike : {v w v' w' : Value} → Alike pairs g.objects h.objects v w → Alike pairs g.objects h.objects v' w' → same g.objects v v' ≡ same h.objects w w'
  same_alike x0 x1 = grind (arith, common_steps, nils, numbers, partners, without_objects, same_partners, not_gone, gone)

  -- ---- changes

  -- writing corresponding values to one root
  matched_root : (p : ℕ) {v w : Value} → Alike pairs g.objects h.objects v w → Matched pairs (set_root g p v) (set_root h p w)
  matched_root p {v} {w} a = grind (arith, common_steps, zip_set)

  -- writing corresponding values to a field of two partners
  module _ (n n' i : ℕ) (v w : Value) (p : paired pairs n n' ≡ true) (a : Alike pairs g.objects h.objects v w) where
    abbrev left : List (ℕ × Object)
    left = set_field g.objects n i v

    abbrev right : List (ℕ × Object)
    right = set_field h.objects n' i w

    still : {x y : Value} → Alike pairs g.objects h.objects x y → Alike pairs left right x y
    still nils = nils
    still (numbers m) = numbers m
    still (partners x y q) = partners x y q
    still (without_objects x y e f) = without_objects x y (lookup_set_none g.objects n i v x e) (lookup_set_none h.objects n' i w y f)

    written_objects : (o q : Option Object) → ObjectsAlike pairs g.objects h.objects o q → ObjectsAlike pairs left right (with_field_option o i v) (with_field_option q i w)
    written_objects o q b = grind (arith, common_steps, zip_set, still, zip_map)

    each_object : (x y : ℕ) → paired pairs x y ≡ true → ObjectsAlike pairs left right (lookup left x) (lookup right y)
    each_object x y q = grind (arith, common_steps, cases_Bool, eqb-true, lookup_set_same, with_field_option, written_objects, eqb-false, lookup_set_other, zip_map, still)

    matched_field : Matched pairs (record { objects = left; roots = g.roots }) (record { objects = right; roots = h.roots })
    matched_field = grind (arith, common_steps, zip_map, still, each_object)

  -- a new object on each side, under names that occur nowhere
  module _ (a b : ℕ) (unused : IsUnused g a) (unused' : IsUnused h b) (o : Object) (first_fields : AllByRecursion (λ v. v ≡ first_value o.raw) o.fields) where
    abbrev more : List (ℕ × ℕ)
    more = (a, b) ∷ pairs

    abbrev left_more : List (ℕ × Object)
    left_more = g.objects ++ (a, o) ∷ []

    abbrev right_more : List (ℕ × Object)
    right_more = h.objects ++ (b, o) ∷ []

    ref_differs : (n x : ℕ) → Avoids n (Ref x) → (n == x) ≡ false
    ref_differs n x e = grind (arith, common_steps, ne_eqb, both_ways, eq-eqb)

    newer : {x y : Value} → Avoids a x → Avoids b y → Alike pairs g.objects h.objects x y → Alike more left_more right_more x y
    newer s t nils = nils
    newer s t (numbers m) = numbers m
    newer s t (partners x y q) = partners x y (paired_more (a, b) pairs x y q)
    newer s t (without_objects x y e f) = without_objects x y (lookup_push_other g.objects a o x (ref_differs a x s) ∙ e) (lookup_push_other h.objects b o y (ref_differs b y t) ∙ f)

    newer_objects : (p q : Option Object) → FieldsAvoid a p → FieldsAvoid b q → ObjectsAlike pairs g.objects h.objects p q → ObjectsAlike more left_more right_more p q
    newer_objects p q s t c = grind (arith, common_steps, zip_weaker, newer)

    abbrev key_parts : (list_any (λ other. other == a) (map (λ entry. entry.0) g.objects ++ flat_map (λ entry. flat_map names_of entry.1.fields) g.objects) ≡ false) × (list_any (λ other. other == a) (flat_map names_of g.roots) ≡ false)
    key_parts = any_append (λ other. other == a) (map (λ entry. entry.0) g.objects ++ flat_map (λ entry. flat_map names_of entry.1.fields) g.objects) (flat_map names_of g.roots) unused

    abbrev key_parts' : (list_any (λ other. other == b) (map (λ entry. entry.0) h.objects ++ flat_map (λ entry. flat_map names_of entry.1.fields) h.objects) ≡ false) × (list_any (λ other. other == b) (flat_map names_of h.roots) ≡ false)
    key_parts' = any_append (λ other. other == b) (map (λ entry. entry.0) h.objects ++ flat_map (λ entry. flat_map names_of entry.1.fields) h.objects) (flat_map names_of h.roots) unused'

    abbrev object_parts : (list_any (λ other. other == a) (map (λ entry. entry.0) g.objects) ≡ false) × (list_any (λ other. other == a) (flat_map (λ entry. flat_map names_of entry.1.fields) g.objects) ≡ false)
    object_parts = any_append (λ other. other == a) (map (λ entry. entry.0) g.objects) (flat_map (λ entry. flat_map names_of entry.1.fields) g.objects) key_parts.0

    abbrev object_parts' : (list_any (λ other. other == b) (map (λ entry. entry.0) h.objects) ≡ false) × (list_any (λ other. other == b) (flat_map (λ entry. flat_map names_of entry.1.fields) h.objects) ≡ false)
    object_parts' = any_append (λ other. other == b) (map (λ entry. entry.0) h.objects) (flat_map (λ entry. flat_map names_of entry.1.fields) h.objects) key_parts'.0

    right_absent : lookup h.objects b ≡ None
    right_absent = not_a_key b h.objects object_parts'.0

    nothing_there : (p q : Option Object) → ObjectsAlike pairs g.objects h.objects p q → p ≡ None → ⊥
    nothing_there p q c e = grind (arith, common_steps)

    -- the new names had no partner
    left_unpaired : (y : ℕ) → paired pairs a y ≡ true → ⊥
    left_unpaired y q = grind (arith, common_steps, nothing_there, not_a_key)

    right_unpaired : (x : ℕ) → paired pairs x b ≡ true → ⊥
    right_unpaired x q = grind (arith, common_steps, right_absent)

    zip_first : (vs : List Value) → AllByRecursion (λ v. v ≡ first_value o.raw) vs → AllZip (Alike more left_more right_more) vs vs
    zip_first [] e = tt
    zip_first (v ∷ vs) e = (subst (λ x. Alike more left_more right_more x x) (sym e.0) (first_alike more left_more right_more o.raw), zip_first vs e.1)

    each_newer : (x y : ℕ) → paired more x y ≡ true → ObjectsAlike more left_more right_more (lookup left_more x) (lookup right_more y)
    each_newer x y q = grind (arith, common_steps, paired_cases, lookup_push_same, not_a_key, right_absent, zip_first, ne_eqb, left_unpaired, right_unpaired, lookup_push_other, newer_objects, fields_avoid)

    matched_new : Matched more (add_object g a o) (add_object h b o)
    matched_new = record {
      roots = zip_weaker _ _ (Avoids a) (Avoids b) g.roots h.roots (λ x y. newer) (avoids_each a g.roots key_parts.1) (avoids_each b h.roots key_parts'.1) matched.roots;
      objects = each_newer;
      one_right = λ x y z p q. elim (paired_cases (a, b) pairs x y p) [
        | inl here ↦ elim (paired_cases (a, b) pairs x z q) [
          | inl here' ↦ sym here.1 ∙ here'.1
          | inr later' ↦ absurd (left_unpaired z (subst (λ m. paired pairs m z ≡ true) (sym here.0) later'))
        ]
        | inr later ↦ elim (paired_cases (a, b) pairs x z q) [
          | inl here' ↦ absurd (left_unpaired y (subst (λ m. paired pairs m y ≡ true) (sym here'.0) later))
          | inr later' ↦ matched.one_right x y z later later'
        ]
      ];
      one_left = λ x y z p q. elim (paired_cases (a, b) pairs x z p) [
        | inl here ↦ elim (paired_cases (a, b) pairs y z q) [
          | inl here' ↦ sym here.0 ∙ here'.0
          | inr later' ↦ absurd (right_unpaired y (subst (λ m. paired pairs y m ≡ true) (sym here.1) later'))
        ]
        | inr later ↦ elim (paired_cases (a, b) pairs y z q) [
          | inl here' ↦ absurd (right_unpaired x (subst (λ m. paired pairs x m ≡ true) (sym here'.1) later))
          | inr later' ↦ matched.one_left x y z later later'
        ]
      ];
    }

all_first : (raw : Bool) (n : ℕ) → AllByRecursion (λ v. v ≡ first_value raw) (replicate n (first_value raw))
all_first raw zero = tt
all_first raw (suc n) = (refl, all_first raw n)

module _ (pairs : List (ℕ × ℕ)) (g h : Graph) (matched : Matched pairs g h) where
  get_alike : (d : ℕ) (o q : Option Object) (v w : Option Value) → BothOrNone pairs g h matched o q → Together (Alike pairs g.objects h.objects) v w
      → AlikeAfter (get_field g d o v) (get_field h d q w)
  get_alike d None None v w t u = (refl, pairs, matched)
  get_alike d None (Some q) v w t u = absurd t
  get_alike d (Some o) None v w t u = absurd t
  get_alike d (Some o) (Some q) None None t u = (refl, pairs, matched)
  get_alike d (Some o) (Some q) None (Some w) t u = absurd u
  get_alike d (Some o) (Some q) (Some v) None t u = absurd u
  get_alike d (Some o) (Some q) (Some v) (Some w) t u = (ap Saw (view_alike pairs g h matched u), pairs, matched_root pairs g h matched d u)

  number_alike : {x y : Value} → Alike pairs g.objects h.objects x y → is_number x ≡ is_number y
  number_alike nils = refl
  number_alike (numbers n) = refl
  number_alike (partners a b p) = refl
  number_alike (without_objects a b e f) = refl

  -- a write that may be refused
  abbrev written : Graph → Bool → ℕ → ℕ → Value → Reply × Graph
  written g refused n i x = cond refused (NoNumber, g) (Done, record g { objects = set_field g.objects n i x })

  written_alike : (refused : Bool) (n n' i : ℕ) (x y : Value) → paired pairs n n' ≡ true → Alike pairs g.objects h.objects x y
      → AlikeAfter (written g refused n i x) (written h refused n' i y)
  written_alike true n n' i x y p a = (refl, pairs, matched)
  written_alike false n n' i x y p a = (refl, pairs, matched_field pairs g h matched n n' i x y p a)

  put_partners : (n n' i : ℕ) (o q : Option Object) (v w : Option Value) (x y : Value) → paired pairs n n' ≡ true → BothOrNone pairs g h matched o q
      → Together (Alike pairs g.objects h.objects) v w → Alike pairs g.objects h.objects x y
      → AlikeAfter (put_field g (Ref n) o v i x) (put_field h (Ref n') q w i y)
  put_partners n n' i None None v w x y p t u a = (refl, pairs, matched)
  put_partners n n' i None (Some q) v w x y p t u a = absurd t
  put_partners n n' i (Some o) None v w x y p t u a = absurd t
  put_partners n n' i (Some o) (Some q) None None x y p t u a = (refl, pairs, matched)
  put_partners n n' i (Some o) (Some q) None (Some w) x y p t u a = absurd u
  put_partners n n' i (Some o) (Some q) (Some v) None x y p t u a = absurd u
  put_partners n n' i (Some o) (Some q) (Some v) (Some w) x y p t u a =
      subst (λ refused. AlikeAfter (written g (o.raw && not (is_number x)) n i x) (written h refused n' i y))
      (λ j. t.0 j && not (number_alike a j))
      (written_alike (o.raw && not (is_number x)) n n' i x y p a)

  put_nothing : (n n' i : ℕ) (o q : Option Object) (x y : Value) → o ≡ None → q ≡ None
      → AlikeAfter (put_field g (Ref n) o (field_of o i) i x) (put_field h (Ref n') q (field_of q i) i y)
  put_nothing n n' i None None x y e f = (refl, pairs, matched)
  put_nothing n n' i None (Some q) x y e f = absurd (let no : Some q ≡ None = f in cc)
  put_nothing n n' i (Some o) q x y e f = absurd (let no : Some o ≡ None = e in cc)

  put_alike : (i : ℕ) {s t : Value} {x y : Value} → Alike pairs g.objects h.objects s t → Alike pairs g.objects h.objects x y
      → AlikeAfter (put_field g s (object_of g.objects s) (field_of (object_of g.objects s) i) i x) (put_field h t (object_of h.objects t) (field_of (object_of h.objects t) i) i y)
  put_alike i nils a = (refl, pairs, matched)
  put_alike i (numbers n) a = (refl, pairs, matched)
  put_alike i (partners n n' p) a =
      let both : BothOrNone pairs g h matched (lookup g.objects n) (lookup h.objects n') = target_alike pairs g h matched (partners n n' p) in
      put_partners n n' i (lookup g.objects n) (lookup h.objects n') _ _ _ _ p both (field_alike pairs g h matched _ _ i both) a
  put_alike i (without_objects n n' e f) a = put_nothing n n' i (lookup g.objects n) (lookup h.objects n') _ _ e f

  made_alike : (raw : Bool) (p kind len a b : ℕ) → IsUnused g a → IsUnused h b
      → (let o = new_object raw kind len in AlikeAfter (Made, set_root (add_object g a o) p (Ref a)) (Made, set_root (add_object h b o) p (Ref b)))
  made_alike raw p kind len a b u u' =
      let o : Object = new_object raw kind len in
      let new : Matched ((a, b) ∷ pairs) (add_object g a o) (add_object h b o) = matched_new pairs g h matched a b u u' o (all_first raw len) in
      (refl, (a, b) ∷ pairs, matched_root ((a, b) ∷ pairs) (add_object g a o) (add_object h b o) new p (partners a b (paired_here a b pairs)))

  pub step_alike : (m : ℕ) (op : Op) (a b : ℕ) → IsUnused g a → IsUnused h b → AlikeAfter (step g m op a) (step h m op b)
  step_alike m (ops.New d kind len) a b u u' = made_alike false (place d m) kind len a b u u'
  step_alike m (ops.NewRaw d kind len) a b u u' = made_alike true (place d m) kind len a b u u'
  step_alike m (ops.Num d n) a b u u' = (refl, pairs, matched_root pairs g h matched (place d m) (numbers n))
  step_alike m (ops.Nil d) a b u u' = (refl, pairs, matched_root pairs g h matched (place d m) nils)
  step_alike m (ops.Move d s) a b u u' = (refl, pairs, matched_root pairs g h matched (place d m) (root_alike pairs g h matched (place s m)))
  step_alike m (ops.Get d s i) a b u u' =
      let both : BothOrNone pairs g h matched (object_of g.objects (root g (place s m))) (object_of h.objects (root h (place s m))) = target_alike pairs g h matched (root_alike pairs g h matched (place s m)) in
      get_alike (place d m) _ _ _ _ both (field_alike pairs g h matched _ _ i both)
  step_alike m (ops.Put s i t) a b u u' = put_alike i (root_alike pairs g h matched (place s m)) (root_alike pairs g h matched (place t m))
  step_alike m (ops.Same s t) a b u u' = (ap (λ b. cond b Yes No) (same_alike pairs g h matched (root_alike pairs g h matched (place s m)) (root_alike pairs g h matched (place t m))), pairs, matched)
  step_alike m (ops.Look s) a b u u' = (ap Saw (view_alike pairs g h matched (root_alike pairs g h matched (place s m))), pairs, matched)

-- ---- graphs that correspond match

alike_of : (pairs : List (ℕ × ℕ)) (os qs : List (ℕ × Object)) (v w : Value) → correspond pairs v w ≡ true → Alike pairs os qs v w
alike_of pairs os qs v w e = grind (arith, common_steps, nils, eqb-true, numbers, partners)

zip_alike : (pairs : List (ℕ × ℕ)) (os qs : List (ℕ × Object)) (vs ws : List Value) → AllZip (λ v w. correspond pairs v w ≡ true) vs ws → AllZip (Alike pairs os qs) vs ws
zip_alike pairs os qs [] [] z = tt
zip_alike pairs os qs [] (w ∷ ws) z = absurd z
zip_alike pairs os qs (v ∷ vs) [] z = absurd z
zip_alike pairs os qs (v ∷ vs) (w ∷ ws) z = (alike_of pairs os qs v w z.0, zip_alike pairs os qs vs ws z.1)

pub matched_of : (pairs : List (ℕ × ℕ)) (g h : Graph) → Corresponding pairs g h → Matched pairs g h
matched_of pairs g h c = grind (arith, common_steps, zip_alike)
