-- The end of a heap is not the name of any object.
use Rattle.std.proofs.Common.{◌≡◌, ◌≢◌, ⊎_elim, inl, inr, ℕ, ◌-◌, ◌<◌, ◌==◌, ◌||◌, false, List, [], ◌∷◌, ◌++◌, map, flat_map, refl, ap, ◌∙◌, subst, arith}
use Rattle.std.specs.List.{list_any}
use Rattle.std.proofs.lemmas.Bool.{ne_eqb}
use Rattle.gc_graph.specs.Graph.{Value, Nil, Num, Ref, Object, Graph, names_of, names_in, IsUnused}
use Rattle.gc_model.specs.Members.{In}
use Rattle.gc_model.specs.Belonging.{IsNamed, RefersTo, IsSpaceGraph}
use Rattle.gc_model.proofs.Lists.{in_cases, in_map_from, in_flat_map_from}
use Rattle.gc_model.proofs.Heap.{laid_range}

none_is : (names : List ℕ) (name : ℕ) → ((n : ℕ) → In n names → n ≢ name) → list_any (λ other. other == name) names ≡ false
none_is [] name h = refl
none_is (n ∷ names) name h = ap (λ b. b || list_any (λ other. other == name) names) (ne_eqb n name (h n (inl refl))) ∙ none_is names name (λ m k. h m (inr k))

module _ (size free : ℕ) (g : Graph) (h : IsSpaceGraph size free g) where
  named_below : (a : ℕ) → IsNamed g.objects a → a < size - free
  named_below a n = let r = laid_range 1 g.objects (size - free) (a, n.0) h.laid n.1 in omega arith

  value_below : (v : Value) (n : ℕ) → RefersTo (IsNamed g.objects) v → In n (names_of v) → n < size - free
  value_below Nil n r k = absurd k
  value_below (Num m) n r k = absurd k
  value_below (Ref a) n r (inl e) = named_below n (subst (IsNamed g.objects) e r)
  value_below (Ref a) n r (inr k) = absurd k

  key_below : (n : ℕ) → In n (map (λ (entry : ℕ × Object). entry.0) g.objects) → n < size - free
  key_below n k =
      let e = in_map_from (λ (entry : ℕ × Object). entry.0) n g.objects k in
      named_below n (e.0.1, subst (λ m. In {X = ℕ × Object} (m, e.0.1) g.objects) e.2 e.1)

  field_below : (n : ℕ) → In n (flat_map (λ (entry : ℕ × Object). flat_map names_of entry.1.fields) g.objects) → n < size - free
  field_below n k =
      let e = in_flat_map_from (λ (entry : ℕ × Object). flat_map names_of entry.1.fields) n g.objects k in
      let v = in_flat_map_from names_of n e.0.1.fields e.2 in
      value_below v.0 n ((h.objects e.0.0 e.0.1 e.1).fields v.0 v.1) v.2

  root_below : (n : ℕ) → In n (flat_map names_of g.roots) → n < size - free
  root_below n k = let v = in_flat_map_from names_of n g.roots k in value_below v.0 n (h.roots v.0 v.1) v.2

  pub end_unused : IsUnused g (size - free)
  end_unused = none_is (names_in g) (size - free) (λ n k. ⊎_elim
      (λ x. ⊎_elim
      (λ y. let l = key_below n y in omega arith)
      (λ y. let l = field_below n y in omega arith)
      (in_cases n (map (λ (entry : ℕ × Object). entry.0) g.objects) (flat_map (λ (entry : ℕ × Object). flat_map names_of entry.1.fields) g.objects) x))
      (λ x. let l = root_below n x in omega arith)
      (in_cases n (map (λ (entry : ℕ × Object). entry.0) g.objects ++ flat_map (λ (entry : ℕ × Object). flat_map names_of entry.1.fields) g.objects) (flat_map names_of g.roots) k))
