-- The links of originals tell the pairs of a collection.
use Rattle.std.proofs.lemmas.Grind.{common_steps}
use Rattle.std.proofs.Common.{◌≡◌, ◌↔◌, ℕ, ◌+◌, ◌-◌, ◌%◌, ◌<◌, true, List, map, drop, get_or, Option, Some, None, refl, ap, sym, ◌∙◌, subst, arith}
use Rattle.std.specs.Prelude.{◌^◌, IsSome, slice_index}
use Rattle.std.proofs.Math.ListN.{get_or-map}
use Rattle.std.proofs.lemmas.Grind.{get_or_after_one}
use Rattle.std.specs.Option.{option_map}
use Rattle.std.proofs.lemmas.Bool.{eqb-true, eqb-false}
use Rattle.gc_graph.specs.Graph.{lookup}
use Rattle.gc_words.specs.Image.{is_start, objects_of}
use Rattle.gc_words.specs.Spelling.{link_at}
use Rattle.gc_words.proofs.Public.{object_found}
use Rattle.gc_heap.specs.Heap.{HeapWords, graph_in}
use Rattle.gc_model.specs.State.{Replica, replica_of, pairs_of}
use Rattle.gc_model.specs.Members.{In}
use Rattle.gc_model.specs.Belonging.{IsDue}
use Rattle.gc_model.proofs.Public.{found_by_name, in_map, in_map_from, pair, replica_exists, replica_in}
use Rattle.gc_copy.specs.Words.{CollectionWords, RoomWords, IsCollection, BelongsTo, TellsMoves, collection_in, mark_of, moved_in, place_told}
use Rattle.gc_copy.specs.Internal.Words.{moves_of}
use Rattle.gc_copy.proofs.OpenCollection.{link_tells}

-- the place of an address is told by the link there
pub moves_at : (epoch : ℕ) (words : List ℕ) (a : ℕ) → slice_index (moves_of epoch words) a ≡ (link_at words a - mark_of epoch) % 2 ^ 32
moves_at epoch words a =
    let low = λ (link : ℕ). (link - mark_of epoch) % 2 ^ 32 in
    let zero : low 0 ≡ 0 = omega arith in
    let next : 1 + a ≡ a + 1 = omega arith in
    ap (get_or (map low (drop 1 words)) a) (sym zero) ∙ get_or-map low (drop 1 words) a 0 ∙ ap low (get_or_after_one words a 0 ∙ ap (slice_index words) next)

-- an object of the graph starts at its address
named_start : (words : List ℕ) (a : ℕ) → IsSome (lookup (objects_of words) a) → is_start words a ≡ true
named_start words a h = grind (arith, common_steps, object_found)

-- a place below 2^32 is told as it is
told_as_it_is : (link : ℕ) (o : Option ℕ) → link < 2 ^ 32 → (link ≡ 0 → o ≡ None) → ((link ≡ 0 → ⊥) → o ≡ Some link) → place_told (link % 2 ^ 32) ≡ o
told_as_it_is link o small none some = grind (arith, common_steps, eqb-true, eqb-false)

module _ (heap : HeapWords) (c : CollectionWords) (is : IsCollection c) (k : BelongsTo heap c) where
  room_tells : (room : RoomWords) (a : ℕ) → room.moves ≡ moves_of c.epoch heap.space.words → IsSome (lookup (graph_in heap).objects a)
      → moved_in room a ≡ option_map (λ (r : Replica). r.place) (replica_of (collection_in c) a)
  room_tells room a told named =
      let t = link_tells heap c a (link_at heap.space.words a - mark_of c.epoch) is k (named_start heap.space.words a named) refl in
      ap (λ moves. place_told (slice_index moves a)) told
      ∙ ap place_told (moves_at c.epoch heap.space.words a)
      ∙ told_as_it_is (link_at heap.space.words a - mark_of c.epoch) (option_map (λ (r : Replica). r.place) (replica_of (collection_in c) a)) t.small t.none t.some

  -- the replica of an object is its partner
  partner_place : (a b : ℕ) → (o : Option Replica) → replica_of (collection_in c) a ≡ o → (option_map (λ (r : Replica). r.place) o ≡ Some b) ↔ In {X = ℕ × ℕ} (a, b) (pairs_of (collection_in c))
  partner_place a b None e = (
    (λ h. absurd (let no : None ≡ Some b = h in cc)),
    (λ h. let q = in_map_from pair (a, b) (collection_in c).replicas h in
        let s = replica_exists (collection_in c) q.0 q.1 in
        let name : q.0.original ≡ a = ap (λ (p : ℕ × ℕ). p.0) q.2 in
        absurd (let no : None ≡ Some s.0 = sym e ∙ ap (replica_of (collection_in c)) (sym name) ∙ s.1 in cc)),
  )
  partner_place a b (Some r) e =
      let found = replica_in (collection_in c) a r e in (
        (λ h. let place : r.place ≡ b = (let s : Some r.place ≡ Some b = h in cc) in
            subst (λ (p : ℕ × ℕ). In p (pairs_of (collection_in c))) (λ i. (found.1 i, place i)) (in_map pair r (collection_in c).replicas found.0)),
        (λ h. let q = in_map_from pair (a, b) (collection_in c).replicas h in
            let name : q.0.original ≡ a = ap (λ (p : ℕ × ℕ). p.0) q.2 in
            let place : q.0.place ≡ b = ap (λ (p : ℕ × ℕ). p.1) q.2 in
            let by_name : Some q.0 ≡ Some r = sym (found_by_name (IsDue (collection_in c)) (graph_in heap).objects (collection_in c) k.belongs q.0 q.1) ∙ ap (replica_of (collection_in c)) name ∙ e in
            ap (option_map (λ (s : Replica). s.place)) (sym by_name) ∙ ap Some place),
      )

  -- a room with the words of the heap tells the pairs of the collection
  pub moves_told : (room : RoomWords) → room.moves ≡ moves_of c.epoch heap.space.words → TellsMoves (graph_in heap) (pairs_of (collection_in c)) room
  moves_told room told a b named =
      let p = partner_place a b (replica_of (collection_in c) a) refl in
      let t = room_tells room a told named in
      ((λ h. p.0 (sym t ∙ h)), (λ h. t ∙ p.1 h))
