-- The replicas take no more words than the objects of the mutator's space, so a new space that is as large has room for the next one.
use Rattle.std.proofs.Common.{◌≡◌, ℕ, ◌+◌, ◌≤◌, true, List, [], ◌∷◌, length, map, Some, None, is_none, refl, ap, ◌∙◌, subst, ⊎_elim, arith}
use Rattle.std.specs.Prelude.{if◌then◌else◌, nat_lt, replicate}
use Rattle.std.proofs.lemmas.Grind.{common_steps}
use Rattle.std.proofs.lemmas.Bool.{cond-true, cases_Bool, ltb-false}
use Rattle.std.proofs.lemmas.List.{length-replicate, map-append}
use Rattle.std.proofs.lemmas.List.Elements.{All-replicate}
use Rattle.gc_graph.specs.Graph.{Value, Ref, Object, lookup, first_value}
use Rattle.gc_graph.specs.Machine.{object_words}
use Rattle.gc_words.specs.Image.{objects_of}
use Rattle.gc_words.specs.Space.{IsSpace, free_in, end_of}
use Rattle.gc_words.specs.Closed.{IsClosed, IsRootWord}
use Rattle.gc_heap.specs.Heap.{IsHeap, graph_in}
use Rattle.gc_model.specs.State.{Replica, Collection, State, objects_end, new_end, new_free, replica_of}
use Rattle.gc_model.specs.Steps.{with_written, place_replica, if_room, copy_root, root_target}
use Rattle.gc_model.specs.Belonging.{IsNamed, RefersTo, IsSpaceGraph, IsOpened, Laid}
use Rattle.gc_model.specs.declared.step.Step.TheVariants as steps
use Rattle.gc_model.specs.declared.step.StepReply.TheVariants.{Copied}
use Rattle.gc_model.proofs.Public.{lookup_in, opened_has_room, placed, with_written_length, end_push}
use Rattle.gc_copy.proofs.Public.{heap_graph}
use Rattle.gc_concurrent.specs.Ends.{Mine, Theirs, its, one_heap}
use Rattle.gc_concurrent.specs.Internal.Plans.{collection_of, plan}
use Rattle.gc_concurrent.specs.Internal.Rule.{brought, placed_one, blank_replica}

-- ---- where the new space ends

ends_stay : (at name i : ℕ) (v : Value) (rs : List Replica) → objects_end at (map placed (map (with_written name i v) rs)) ≡ objects_end at (map placed rs)
ends_stay at name i v [] = refl
ends_stay at name i v (r ∷ rest) = grind (arith, common_steps, with_written_length, placed, ends_stay (at + (length r.object.fields + 2)) name i v rest)

-- a field that follows takes no words
pub end_brought : (t : Theirs) (name i : ℕ) (v : Value) → new_end (its (brought name i v t)) ≡ new_end (its t)
end_brought t name i v = ends_stay 1 name i _ t.replicas

pub end_after : (t : Theirs) (name : ℕ) (o : Object) → new_end (its (placed_one name o t)) ≡ new_end (its t) + object_words (length o.fields)
end_after t name o =
    ap (objects_end 1) (map-append placed t.replicas (blank_replica name (new_end (its t)) o ∷ []))
    ∙ (end_push 1 (map placed t.replicas) (placed (blank_replica name (new_end (its t)) o))
    ∙ ap (λ n. new_end (its t) + (n + 2)) (length-replicate (length o.fields) (first_value o.raw)))

-- ---- the next replica

-- the same objects in a space without a free word, and a root that refers to one of them
module _ (m : Mine) (t : Theirs) (name : ℕ) (o : Object) (is : IsSpace m.space) (closed : IsClosed m.space.words []) (h : IsOpened (plan m t) (collection_of m t))
    (fits : new_end (its t) ≤ end_of m.space) (missing : replica_of (its t) name ≡ None) (found : lookup (objects_of m.space.words) name ≡ Some o) where
  abbrev end : ℕ
  end = end_of m.space

  heap : IsHeap (one_heap m.space (replicate 32 0))
  heap = record { space = is; closed = record { fields = closed.fields; roots = All-replicate (IsRootWord m.space.words) 32 0 (record { value = refl; start = tt }) }; roots = omega arith; few = omega arith }

  graph : IsSpaceGraph m.space.size (free_in m.space) (graph_in (one_heap m.space (replicate 32 0)))
  graph = heap_graph (one_heap m.space (replicate 32 0)) heap

  abbrev c : Collection
  c = record (collection_of m t) { size = end_of m.space }

  abbrev full : State
  full = record { mutators = 2; size = end_of m.space; heap = record { graph = record { objects = objects_of m.space.words; roots = Ref name ∷ [] }; free = 0 }; collection = Some (record (collection_of m t) { size = end_of m.space }) }

  shaped : IsSpaceGraph (end_of m.space) 0 (record { objects = objects_of m.space.words; roots = Ref name ∷ [] })
  shaped = record {
    high = (let a = is.end_high in let b = is.size_high in omega arith);
    room = (let a = is.end_low in omega arith);
    laid = subst (Laid 1 (objects_of m.space.words)) (let a = is.end_high in omega arith) graph.laid;
    objects = graph.objects;
    roots = λ v k. ⊎_elim (λ (e : Ref name ≡ v). subst (RefersTo (IsNamed (objects_of m.space.words))) e (o, lookup_in (objects_of m.space.words) name o found)) (λ (e : ⊥). absurd e) k;
    numbers = graph.numbers;
  }

  opened : IsOpened full c
  opened =
      let b = h.belongs in
      record {
        belongs = record { laid = b.laid; room = fits; once = b.once; replicas = b.replicas; scan = b.scan; entries = b.entries; numbers = b.numbers };
        size = (let a = is.end_high in let b = is.size_high in omega arith);
        logs = refl;
      }

  lacks_none : nat_lt (new_free c) (object_words (length o.fields)) ≡ true → ⊥
  lacks_none e =
      let target : root_target c full.heap.graph ≡ Some name = ap (λ x. if is_none x then Some name else None) missing in
      let none : place_replica c name (lookup (objects_of m.space.words) name) ≡ None = ap (place_replica c name) found ∙ cond-true (nat_lt (new_free c) (object_words (length o.fields))) None _ e in
      opened_has_room full shaped c opened refl (omega arith) steps.Roots (ap (λ x. (copy_root full c x).0) target ∙ ap (λ x. (if_room full Copied x).0) none)

  -- it ends no later than the objects do
  pub next_fits : new_end (its t) + object_words (length o.fields) ≤ end_of m.space
  next_fits = ⊎_elim (λ e. absurd (lacks_none e)) (λ e. let l : object_words (length o.fields) ≤ new_free c = ltb-false (new_free c) (object_words (length o.fields)) e in omega arith) (cases_Bool (nat_lt (new_free c) (object_words (length o.fields))))

  pub end_placed : new_end (its (placed_one name o t)) ≤ end_of m.space
  end_placed = let n = next_fits in let e = end_after t name o in omega arith
