-- In graphs that correspond, paths agree, and each reachable object has one replica.
use Rattle.std.proofs.lemmas.Grind.{common_steps}
use Rattle.std.proofs.Common.{◌≡◌, ℕ, suc, zero, true, List, [], ◌∷◌, length, take, Option, Some, None, refl, ap, subst, arith}
use Rattle.std.specs.Prelude.{slice_get}
use Rattle.std.specs.List.{AllZip}
use Rattle.gc_graph.specs.Graph.{Value, Ref, Object, Graph, object_of, field_of, follow, at_path, Reachable, fresh_name}
use Rattle.gc_graph.specs.Correspond.{paired, correspond, Agree, EqualFieldByField, Corresponding}
use Rattle.gc_graph.specs.Machine.{Roomy, roomy_step}
use Rattle.gc_graph.specs.Runs.{replies}
use Rattle.gc_graph.specs.declared.command.Op.{Op}

module _ (pairs : List (ℕ × ℕ)) (g h : Graph) (c : Corresponding pairs g h) where
  get_agrees : (vs ws : List Value) (i : ℕ) → AllZip (λ v w. correspond pairs v w ≡ true) vs ws → Agree pairs (slice_get vs i) (slice_get ws i)
  get_agrees [] [] i z = tt
  get_agrees [] (w ∷ ws) i z = absurd z
  get_agrees (v ∷ vs) [] i z = absurd z
  get_agrees (v ∷ vs) (w ∷ ws) zero z = z.0
  get_agrees (v ∷ vs) (w ∷ ws) (suc i) z = get_agrees vs ws i z.1

  found_agrees : (o q : Option Object) (i : ℕ) → EqualFieldByField pairs o q → Agree pairs (field_of o i) (field_of q i)
  found_agrees None q i e = absurd e
  found_agrees (Some o) None i e = absurd e
  found_agrees (Some o) (Some q) i e = get_agrees o.fields q.fields i e.3

  field_agrees : (v w : Value) (i : ℕ) → correspond pairs v w ≡ true → Agree pairs (field_of (object_of g.objects v) i) (field_of (object_of h.objects w) i)
  field_agrees v w i e = grind (arith, common_steps, found_agrees)

  follow_agrees : (fields : List ℕ) (v w : Option Value) → Agree pairs v w → Agree pairs (follow g.objects v fields) (follow h.objects w fields)
  follow_agrees fields None None a = tt
  follow_agrees fields None (Some w) a = absurd a
  follow_agrees fields (Some v) None a = absurd a
  follow_agrees [] (Some v) (Some w) a = a
  follow_agrees (i ∷ fields) (Some v) (Some w) a = follow_agrees fields _ _ (field_agrees v w i a)

  pub paths_agree : (place : ℕ) (fields : List ℕ) → Agree pairs (at_path g place fields) (at_path h place fields)
  paths_agree place fields = follow_agrees fields _ _ (get_agrees g.roots h.roots place c.roots)

  -- ---- replicas

  partner : (a : ℕ) (w : Option Value) → Agree pairs (Some (Ref a)) w → (b : ℕ) × (paired pairs a b ≡ true)
  partner a w e = grind (arith, common_steps)

  reached_partner : (a : ℕ) → Reachable g a → (b : ℕ) × (paired pairs a b ≡ true)
  reached_partner a r = partner a (at_path h r.0 r.1) (subst (λ v. Agree pairs v (at_path h r.0 r.1)) r.2 (paths_agree r.0 r.1))

  pub one_replica : (a : ℕ) → Reachable g a → (b : ℕ) × (paired pairs a b ≡ true) × ((d : ℕ) → paired pairs a d ≡ true → d ≡ b)
  one_replica a r = let found : (b : ℕ) × (paired pairs a b ≡ true) = reached_partner a r in (found.0, found.1, λ d p. c.one_right a d found.0 p found.1)

-- ---- as many replies as commands

length_replies : (commands : List (ℕ × Op)) (s : Roomy) → length (replies s commands) ≡ length commands
length_replies [] s = refl
length_replies (command ∷ rest) s = ap suc (length_replies rest (roomy_step s command.0 command.1 (fresh_name s.graph)).1)

take_whole : {X : Type 0} (xs : List X) → take (length xs) xs ≡ xs
take_whole [] = refl
take_whole (x ∷ xs) = ap (λ ys. x ∷ ys) (take_whole xs)

pub take_replies : (commands : List (ℕ × Op)) (s : Roomy) → take (length commands) (replies s commands) ≡ replies s commands
take_replies commands s = subst (λ n. take n (replies s commands) ≡ replies s commands) (length_replies commands s) (take_whole (replies s commands))
