-- What a step adds to the replicas: none, or one at the end.
-- For the theorem that the monitor follows its heap.
use Rattle.std.proofs.lemmas.Grind.{common_steps}
use Rattle.std.proofs.Common.{◌≡◌, ◌⊎◌, inl, ℕ, ◌+◌, nat_lt, Bool, true, false, cond, List, [], ◌∷◌, ◌++◌, map, length, Option, Some, None, refl, ap, ◌∙◌, subst, arith}
use Rattle.std.proofs.lemmas.List.{map-append}
use Rattle.gc_graph.specs.Graph.{Value, Object, Graph}
use Rattle.gc_model.specs.State.{Replica, Collection, new_end, new_free}
use Rattle.gc_model.specs.Steps.{fresh_replica, place_replica, with_written, bring_up_to_date}
use Rattle.gc_model.specs.Members.{In}
use Rattle.gc_model.proofs.Public.{in_right, in_map, end_push, pair, placed, replicas_end, with_written_pair, with_written_length, pairs_written}

-- the new replica and where it is
pub record IsAdded (c next : Collection) (r : Replica) : Type 0 where
  pub there : In r next.replicas
  pub place : r.place ≡ new_end c
  pub pairs : map pair next.replicas ≡ map pair c.replicas ++ (r.original, new_end c) ∷ []
  pub end : new_end next ≡ new_end c + (length r.object.fields + 2)

pub record HasSame (c next : Collection) : Type 0 where
  pub pairs : map pair next.replicas ≡ map pair c.replicas
  pub end : new_end next ≡ new_end c

abbrev pub Adds : Collection → Collection → Type 0
Adds c next = HasSame c next ⊎ ((r : Replica) × IsAdded c next r)

pub adds_none : (c : Collection) → Adds c c
adds_none c = inl (record { pairs = refl; end = refl })

-- only the replicas matter
pub adds_alike : (c next d : Collection) → d.replicas ≡ next.replicas → Adds c next → Adds c d
adds_alike c next d same h = grind (arith, common_steps, pair, replicas_end)

pub adds_placed : (c next : Collection) (name : ℕ) (o : Option Object) → place_replica c name o ≡ Some next → (r : Replica) × IsAdded c next r
adds_placed c next name None k = absurd cc
adds_placed c next name (Some o) k = go (nat_lt (new_free c) (length o.fields + 2)) k
  where
    new_one : Replica
    new_one = fresh_replica name (new_end c) o

    go : (b : Bool) → cond b None (Some (record c { replicas = c.replicas ++ new_one ∷ [] })) ≡ Some next → (r : Replica) × IsAdded c next r
    go true k = absurd cc
    go false k =
        let e : record c { replicas = c.replicas ++ new_one ∷ [] } ≡ next = cc k in
        subst (λ d. (r : Replica) × IsAdded c d r) e (
          new_one,
          record {
            there = in_right new_one c.replicas (new_one ∷ []) (inl refl);
            place = refl;
            pairs = map-append pair c.replicas (new_one ∷ []);
            end = ap (Rattle.gc_model.specs.State.objects_end 1) (map-append placed c.replicas (new_one ∷ [])) ∙ end_push 1 (map placed c.replicas) (placed new_one);
          },
        )

ends_written : (at name i : ℕ) (w : Value) (rs : List Replica) → Rattle.gc_model.specs.State.objects_end at (map placed (map (with_written name i w) rs)) ≡ Rattle.gc_model.specs.State.objects_end at (map placed rs)
ends_written at name i w [] = refl
ends_written at name i w (r ∷ rs) = grind (arith, common_steps, placed, with_written_length, ends_written (at + (length (with_written name i w r).object.fields + 2)) name i w rs)

pub adds_brought : (c next : Collection) (g : Graph) (name i : ℕ) → bring_up_to_date c g name i ≡ Some next → Adds c next
adds_brought c next g name i is = grind (arith, common_steps, pairs_written, ends_written, pair, with_written_pair, in_map, with_written_length, adds_none, adds_placed)
