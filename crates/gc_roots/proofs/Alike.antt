-- A twin is alike to its root for a checker that has the collection's pairs, so no look of this collector is in vain.
use Rattle.std.proofs.lemmas.Grind.{common_steps}
use Rattle.std.proofs.Common.{◌≡◌, ℕ, ◌+◌, ◌<◌, ◌≤◌, true, false, List, length, map, Option, Some, None, refl, ap, ◌∙◌, subst, arith}
use Rattle.std.specs.Prelude.{IfSome, IsSome, slice_index}
use Rattle.std.specs.Option.{option_map_or}
use Rattle.std.proofs.lemmas.Bool.{cond-true}
use Rattle.std.proofs.lemmas.List.{length-map}
use Rattle.std.proofs.lemmas.List.Elements.{All-get_or}
use Rattle.gc_graph.specs.Slots.{roots_of}
use Rattle.gc_graph.specs.Limits.{largest_space}
use Rattle.gc_graph.specs.Graph.{Value, Nil, Num, Ref, Object, Graph, root}
use Rattle.gc_words.specs.Word.{is_value, value_of, word_of, read_value, read_correspond, words_correspond, HasAddress}
use Rattle.gc_words.specs.Closed.{IsRootWord}
use Rattle.gc_words.specs.Marks.{is_marked}
use Rattle.gc_words.proofs.Public.{value_read_back}
use Rattle.gc_model.specs.State.{Replica, Collection, State, new_graph, new_objects, pairs_of, replica_of, moved, new_end}
use Rattle.gc_model.specs.Belonging.{Belongs}
use Rattle.gc_model.specs.Staying.{HasReplicaOf}
use Rattle.gc_model.proofs.Public.{HasReplica, laid_range, in_map, replica_in, moved_corresponds}
use Rattle.gc_heap.specs.Heap.{HeapWords, IsHeap, graph_in}
use Rattle.gc_copy.specs.Twins.{IsTwin}
use Rattle.gc_copy.proofs.Public.{value_at}
use Rattle.gc_roots.specs.Looks.{LookRow, HasLooked, ComparesKnown}
use Rattle.gc_roots.specs.Twins.{RootRow, KeepsTwins}
use Rattle.gc_roots.proofs.Turns.{new_word}

module _ (objects : List (ℕ × Object)) (c : Collection) (belongs : Belongs objects c) (size : c.size ≤ largest_space) where
  replica_address : (a : ℕ) (r : Replica) → replica_of c a ≡ Some r → (1 ≤ r.place) × (r.place < largest_space)
  replica_address a r found =
      let f = replica_in c a r found in
      let h = laid_range 1 (new_objects c) (new_end c) (r.place, r.object) belongs.laid (in_map (λ (q : Replica). (q.place, q.object)) r c.replicas f.0) in (
        h.0,
        omega (arith, h.1, belongs.room, size),
      )

  address : (v : Value) → HasReplicaOf c v → HasAddress (moved c v)
  address Nil has = tt
  address (Num n) has = tt
  address (Ref a) has = go (replica_of c a) refl has
    where
      go : (o : Option Replica) → replica_of c a ≡ o → IsSome o → HasAddress (Ref (option_map_or (λ (r : Replica). r.place) o a))
      go None e some = absurd cc
      go (Some r) e some = replica_address a r e

  one : (v : Value) → HasReplicaOf c v → HasReplica c v
  one v has = grind (arith, common_steps)

  pub twin_alike : (w u : ℕ) → is_value w ≡ true → IsTwin c (value_of w) u → words_correspond (pairs_of c) w u ≡ true
  twin_alike w u value twin =
      let v : Value = value_of w in
      let old : read_value w ≡ Some (value_of w) = cond-true (is_value w) (Some (value_of w)) None value in
      let new : read_value u ≡ Some (moved c (value_of w)) = ap read_value twin.word_is ∙ value_read_back (moved c (value_of w)) (address (value_of w) twin.known) in
      ap (λ o. read_correspond (pairs_of c) o (read_value u)) old ∙ ap (read_correspond (pairs_of c) (Some (value_of w))) new ∙ moved_corresponds c (value_of w) (one (value_of w) twin.known)

-- So where a checker compares only roots whose twins are up to date, each that it has compared is alike to the new root.
module _ (heap : HeapWords) (s : State) (c : Collection) (row : RootRow) (looks : LookRow) (is : IsHeap heap) (graph : s.heap.graph ≡ graph_in heap) (first : s.collection ≡ Some c) (belongs : Belongs s.heap.graph.objects c) (size : c.size ≤ largest_space) (keeps : KeepsTwins row s) (compares : ComparesKnown row looks) where
  pub known_looked : HasLooked (pairs_of c) (roots_of s.mutators) heap.roots (map word_of (new_graph c s.heap.graph.roots).roots) looks
  known_looked k less none = twin_alike s.heap.graph.objects c belongs size (slice_index heap.roots at) (slice_index (map word_of (new_graph c s.heap.graph.roots).roots) at) word.value
      (subst (λ v. IsTwin c v (slice_index (map word_of (new_graph c s.heap.graph.roots).roots) at)) value (record { known = twin.known; word_is = new_word c s.heap.graph.roots at (omega (arith, within, long)) }))
    where
      at : ℕ
      at = roots_of s.mutators + k

      known : (k < row.front) × (is_marked row.marks k ≡ false)
      known = compares k less none

      twin : IsTwin c (root s.heap.graph at) (slice_index row.twins at)
      twin = subst (λ o. IfSome o (λ d. IsTwin d (root s.heap.graph at) (slice_index row.twins at))) first (keeps.right k known.0 known.1)

      long : length s.heap.graph.roots ≡ length heap.roots
      long = ap (λ (g : Graph). length g.roots) graph ∙ length-map heap.roots value_of

      within : at < length heap.roots
      within = omega (arith, known.0, keeps.front_high, keeps.counted, long)

      value : root s.heap.graph at ≡ value_of (slice_index heap.roots at)
      value = ap (λ (g : Graph). root g at) graph ∙ value_at heap.roots at within

      word : IsRootWord heap.space.words (slice_index heap.roots at)
      word = All-get_or (IsRootWord heap.space.words) heap.roots at 0 within is.closed.roots
