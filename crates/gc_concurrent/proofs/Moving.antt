-- The claims of a collection are the row that tells where its flip moves each object.
use Rattle.std.proofs.lemmas.Grind.{common_steps}
use Rattle.std.proofs.Common.{◌≡◌, ℕ, ◌+◌, ◌<◌, ◌≤◌, true, true≢false, List, Option, None, Some, refl, ap, sym, ◌∙◌, subst, inl, inr, arith}
use Rattle.std.specs.Prelude.{◌%◌, ◌^◌, IsSome, slice_index}
use Rattle.std.specs.Option.{option_map_or}
use Rattle.std.specs.declared.option.Option.{Option as Opt}
use Rattle.std.proofs.lemmas.Bool.{eqb-true, eqb-false}
use Rattle.gc_graph.specs.Graph.{Value, Nil, Num, Ref, Object, Graph, at_path, lookup}
use Rattle.gc_graph.specs.Correspond.{Agree, Corresponding, EqualFieldByField, paired}
use Rattle.gc_model.specs.State.{Replica, pairs_of, replica_of}
use Rattle.gc_model.specs.Members.{In}
use Rattle.gc_model.proofs.Public.{in_map, in_map_from, in_paired, pair, paired_in, replica_exists, replica_in}
use Rattle.gc_copy.specs.Words.{place_told}
use Rattle.gc_check.proofs.Public.{paths_agree}
use Rattle.gc_heap.specs.Heap.{graph_in}
use Rattle.gc_concurrent.specs.Ends.{Theirs, its}
use Rattle.gc_concurrent.specs.Moves.{FlipsTo, MovesWords, Situation, Stays, StaysOrFlips, TellsPairs, half, moved_to}
use Rattle.gc_concurrent.specs.Internal.Copiers.{Claims, HasOwnHalf}
use Rattle.gc_concurrent.specs.Internal.Rule.{Loose}
use Rattle.gc_concurrent.proofs.Halves.{original_own, told_own}
use Rattle.gc_concurrent.proofs.Memory.{claimed, some_place}

told_some : (n b : ℕ) → place_told n ≡ Some b → (1 ≤ n) × (n ≡ b)
told_some n b e = grind (arith, common_steps, eqb-true, eqb-false)

some_told : (n b : ℕ) → 1 ≤ n → n ≡ b → place_told n ≡ Some b
some_told n b l e = grind (arith, common_steps, eqb-true, eqb-false)

module _ (row : List ℕ) (t : Theirs) (claims : Claims row t) (loose : ∥ Loose t ∥₁) (g h : Graph) (k : Corresponding (pairs_of (its t)) g h) (own : (a : ℕ) → IsSome (lookup g.objects a) → HasOwnHalf t a) where
  partner : (q : Replica) → In q t.replicas → paired (pairs_of (its t)) q.original q.place ≡ true
  partner q there = in_paired (pairs_of (its t)) q.original q.place (in_map pair q t.replicas there)

  -- what the row tells is a pair
  told_pair : (a b : ℕ) → IsSome (lookup g.objects a) → place_told (slice_index row (half a)) ≡ Some b → paired (pairs_of (its t)) a b ≡ true
  told_pair a b there e =
      let some = told_some (slice_index row (half a)) b e in
      let q = claimed row t a claims (own a there) (λ none. let l = some.0 in omega arith) in
      subst (λ (p : ℕ × ℕ). paired (pairs_of (its t)) p.0 p.1 ≡ true) (λ i. (q.3 i, (q.4 ∙ some.1) i)) (partner q.0 q.2)

  -- each pair is told
  pair_told : (a b : ℕ) → paired (pairs_of (its t)) a b ≡ true → place_told (slice_index row (half a)) ≡ Some b
  pair_told a b e =
      let q = in_map_from pair (a, b) t.replicas (paired_in (pairs_of (its t)) a b e) in
      let name : q.0.original ≡ a = ap (λ (p : ℕ × ℕ). p.0) q.2 in
      let s = replica_exists (its t) q.0 q.1 in
      let found : replica_of (its t) a ≡ Some s.0 = ap (replica_of (its t)) (sym name) ∙ s.1 in
      let r = replica_in (its t) a s.0 found in
      let place : s.0.place ≡ b = k.one_right a s.0.place b (subst (λ x. paired (pairs_of (its t)) x s.0.place ≡ true) r.1 (partner s.0 r.0)) e in
      let at : slice_index row (half a) ≡ s.0.place = told_own row t a claims (subst (HasOwnHalf t) name (original_own t loose q.0 q.1)) ∙ ap (λ (o : Opt Replica). option_map_or (λ (r : Replica). r.place) o 0) found in
      some_told (slice_index row (half a)) b (let l = some_place t loose s.0 r.0 in omega arith) (at ∙ place)

  pub tells_pairs : (moves : MovesWords) → moves.row ≡ row → TellsPairs g (pairs_of (its t)) moves
  tells_pairs moves is a b there = ((λ e. told_pair a b there (sym (at a) ∙ e)), λ e. at a ∙ pair_told a b e)
    where
      at : (a : ℕ) → moved_to moves a ≡ place_told (slice_index row (half a))
      at a = ap (λ (row : List ℕ). place_told (slice_index row (half a))) is

-- ---- what a safepoint leaves

pub stays_where_counted : (old new : Situation) → StaysOrFlips old new → old.moves.flips < 2 ^ 64 → new.moves.flips ≡ old.moves.flips → Stays old new
stays_where_counted old new (inl same) small count = same
stays_where_counted old new (inr flip) small count = absurd (next_differs old.moves.flips small (sym flip.counted ∙ count))
  where
    next_differs : (n : ℕ) → n < 2 ^ 64 → (n + 1) % 2 ^ 64 ≡ n → ⊥
    next_differs n small e = omega arith

pub path_moves : (old new : Situation) → FlipsTo old new → (place : ℕ) (fields : List ℕ) (a : ℕ) → at_path (graph_in old.heap) place fields ≡ Some (Ref a)
    → (b : ℕ) × (moved_to new.moves a ≡ Some b) × (at_path (graph_in new.heap) place fields ≡ Some (Ref b))
path_moves old new flip place fields a found =
    found_at (at_path (graph_in new.heap) place fields) (subst (λ v. Agree flip.pairs v (at_path (graph_in new.heap) place fields)) found (paths_agree flip.pairs (graph_in old.heap) (graph_in new.heap) flip.corresponding place fields))
  where
    is_there : (o q : Option Object) → EqualFieldByField flip.pairs o q → IsSome o
    is_there None q e = absurd e
    is_there (Some o) q e = refl

    found_at : (v : Option Value) → Agree flip.pairs (Some (Ref a)) v → (b : ℕ) × (moved_to new.moves a ≡ Some b) × (v ≡ Some (Ref b))
    found_at None e = absurd e
    found_at (Some Nil) e = absurd (true≢false (sym e))
    found_at (Some (Num n)) e = absurd (true≢false (sym e))
    found_at (Some (Ref b)) e = (b, (flip.moves a b (is_there _ _ (flip.corresponding.objects a b e))).1 e, refl)
