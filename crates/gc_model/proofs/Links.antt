-- What the links in the two spaces of a collection mean.
use Rattle.std.proofs.lemmas.Grind.{common_steps}
use Rattle.std.specs.Option.{option_map_or}
use Rattle.std.proofs.Common.{Bool, ◌≡◌, inl, inr, ⊎_elim, ℕ, ◌+◌, ◌==◌, true, false, List, [], ◌∷◌, map, length, Option, Some, None, is_none, refl, ap, sym, ◌∙◌, subst, arith}
use Rattle.std.proofs.lemmas.Bool.{cases_Bool, cond-true, cond-false, eqb-true, eq-eqb, ne_eqb}
use Rattle.gc_graph.specs.Graph.{Value, Ref, Object, set_field, with_field}
use Rattle.gc_model.specs.State.{Replica, Collection, new_objects, replica_of, replica_at, moved}
use Rattle.gc_model.specs.Steps.{with_written, write_replica}
use Rattle.gc_model.specs.Members.{In, Distinct}
use Rattle.gc_model.specs.Belonging.{Laid, BelongsBy}
use Rattle.gc_model.specs.Linked.{old_links, new_links}
use Rattle.gc_model.proofs.Lists.{in_map, find_some, find_exists}
use Rattle.gc_model.proofs.Heap.{laid_range}
use Rattle.gc_model.proofs.Replicas.{placed, replicas_end, replica_in, replica_exists}
use Rattle.gc_model.proofs.Steps.{same_place}

pub same_original : (replicas : List Replica) (r s : Replica) → Distinct (map (λ q. q.original) replicas) → In r replicas → In s replicas → r.original ≡ s.original → r ≡ s
same_original [] r s d k l e = absurd k
same_original (q ∷ rest) r s d (inl k) (inl l) e = sym k ∙ l
same_original (q ∷ rest) r s d (inl k) (inr l) e =
    let x : s.original ≡ q.original = sym e ∙ sym (ap (λ (p : Replica). p.original) k) in
    absurd (d.0 (subst (λ n. In n (map (λ (p : Replica). p.original) rest)) x (in_map (λ (p : Replica). p.original) s rest l)))
same_original (q ∷ rest) r s d (inr k) (inl l) e =
    let x : r.original ≡ q.original = e ∙ sym (ap (λ (p : Replica). p.original) l) in
    absurd (d.0 (subst (λ n. In n (map (λ (p : Replica). p.original) rest)) x (in_map (λ (p : Replica). p.original) r rest k)))
same_original (q ∷ rest) r s d (inr k) (inr l) e = same_original rest r s d.1 k l e

-- a replica of another name keeps its place and object
unwritten : (name i : ℕ) (v : Value) (replicas : List Replica) → ((q : Replica) → In q replicas → (q.original == name) ≡ false) → map placed (map (with_written name i v) replicas) ≡ map placed replicas
unwritten name i v [] f = refl
unwritten name i v (q ∷ rest) f = grind (arith, common_steps, placed, unwritten name i v rest)

-- writing a replica writes the object at its place
written_objects : (name place i : ℕ) (v : Value) (at : ℕ) (replicas : List Replica) (end : ℕ) → Laid at (map placed replicas) end → ((q : Replica) → In q replicas → (q.original == name) ≡ (q.place == place))
    → map placed (map (with_written name i v) replicas) ≡ set_field (map placed replicas) place i v
written_objects name place i v at [] end l f = refl
written_objects name place i v at (q ∷ rest) end l f = ⊎_elim
    (λ t.
    let named : (q.original == name) ≡ true = f q (inl refl) ∙ t in
    let here : placed (with_written name i v q) ≡ (q.place, with_field q.object i v) = ap placed (cond-true (q.original == name) (record q { object = with_field q.object i v }) q named) in
    let others = unwritten name i v rest (λ p k. f p (inr k) ∙ ne_eqb p.place place (λ e.
    let range = laid_range (at + (length q.object.fields + 2)) (map placed rest) end (placed p) l.1 (in_map placed p rest k) in
    let first = l.0 in let is : q.place ≡ place = eqb-true q.place place t in omega arith)) in
    (λ n. here n ∷ others n) ∙ sym (cond-true (q.place == place) ((q.place, with_field q.object i v) ∷ map placed rest) (placed q ∷ set_field (map placed rest) place i v) t))
    (λ t.
    let here : placed (with_written name i v q) ≡ placed q = ap placed (cond-false (q.original == name) (record q { object = with_field q.object i v }) q (f q (inl refl) ∙ t)) in
    let others = written_objects name place i v (at + (length q.object.fields + 2)) rest end l.1 (λ p k. f p (inr k)) in
    (λ n. here n ∷ others n) ∙ sym (cond-false (q.place == place) ((q.place, with_field q.object i v) ∷ map placed rest) (placed q ∷ set_field (map placed rest) place i v) t))
    (cases_Bool (q.place == place))

module _ (Due : Bool → ℕ → ℕ → ℕ → Type 0) (objects : List (ℕ × Object)) (c : Collection) (h : BelongsBy Due objects c) where
  pub found_by_name : (r : Replica) → In r c.replicas → replica_of c r.original ≡ Some r
  found_by_name r k = grind (arith, common_steps, replica_exists, replica_in, same_original)

  pub found_by_place : (r : Replica) → In r c.replicas → replica_at c r.place ≡ Some r
  found_by_place r k = let s = find_exists (λ (q : Replica). q.place == r.place) c.replicas r k (eq-eqb r.place r.place refl) in grind (arith, common_steps, same_place, replicas_end, find_some (λ (q : Replica). q.place == r.place) c.replicas s.0 s.1)

  pub zero_tells : (a : ℕ) → (old_links c a == 0) ≡ is_none (replica_of c a)
  zero_tells a = go (replica_of c a) refl
    where
      go : (o : Option Replica) → replica_of c a ≡ o → (option_map_or (λ (r : Replica). r.place) o 0 == 0) ≡ is_none o
      go None e = refl
      go (Some r) e = grind (arith, common_steps, laid_range 1 (map placed c.replicas) (replicas_end c.replicas) (placed r) h.laid (in_map placed r c.replicas (replica_in c a r e).0))

  pub write_is_set : (name i : ℕ) (v : Value) (r : Replica) → replica_of c name ≡ Some r → new_objects (write_replica c name i v) ≡ set_field (new_objects c) r.place i v
  write_is_set name i v r e = grind (arith, common_steps, replica_in, written_objects, replicas_end, same_original, same_place, cases_Bool)

  pub old_link_is : (a : ℕ) (r : Replica) → replica_of c a ≡ Some r → moved c (Ref a) ≡ Ref (old_links c a)
  old_link_is a r e = ap (λ o. Ref (option_map_or (λ (r : Replica). r.place) o a)) e ∙ sym (ap (λ o. Ref (option_map_or (λ (r : Replica). r.place) o 0)) e)

  pub new_link_is : (a : ℕ) (r : Replica) → replica_of c a ≡ Some r → new_links c (old_links c a) ≡ a
  new_link_is a r e = let f = replica_in c a r e in ap (λ o. new_links c (option_map_or (λ (r : Replica). r.place) o 0)) e ∙ (ap (λ (o : Option Replica). option_map_or (λ (r : Replica). r.original) o 0) (found_by_place r f.0) ∙ f.1)
