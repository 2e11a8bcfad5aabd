-- With both ends at hand and nothing due, the state is ready in gc_model's sense, and a space that holds the replicas is a heap.
use Rattle.std.proofs.Common.{◌≡◌, ℕ, zero, suc, ◌<◌, ◌&&◌, true, false, List, [], ◌∷◌, map, Option, Some, None, is_some, refl, ap, sym, ◌∙◌, subst, inl, ⊎_elim, arith}
use Rattle.std.specs.Prelude.{◌^◌, slice_get}
use Rattle.std.specs.Option.{unwrap_or, option_map, option_map_or}
use Rattle.std.proofs.lemmas.Bool.{eqb-true}
use Rattle.std.specs.List.{list_all}
use mathlib.Core.Option.{none}
use Rattle.atomic_table.specs.Table.{step, keeps, Allows}
use Rattle.gc_graph.specs.Graph.{Value, Nil, Num, Ref, Object, Graph}
use Rattle.gc_graph.specs.Correspond.{Corresponding}
use Rattle.gc_words.specs.Word.{value_of, word_of}
use Rattle.gc_words.specs.Image.{Image, blocks, block_in, objects_of, object_entry, graph_of}
use Rattle.gc_words.specs.Space.{SpaceWords, IsSpace, free_in, image_with}
use Rattle.gc_words.specs.Spelling.{link_at, spelled}
use Rattle.gc_words.specs.Certificate.{Certified}
use Rattle.gc_words.proofs.Public.{relinked, link_spelled, laid_out_words, closed_objects, some_of}
use Rattle.gc_heap.specs.Heap.{HeapWords, IsHeap, graph_in}
use Rattle.gc_model.specs.State.{Replica, Collection, State, new_graph, pairs_of, new_objects, new_end, moved, replica_of}
use Rattle.gc_model.specs.Linked.{linked_image, old_links, new_links}
use Rattle.gc_model.specs.Steps.{is_empty, is_ready, scan_done, roots_done}
use Rattle.gc_model.specs.Members.{In}
use Rattle.gc_model.specs.Belonging.{IsSpaceGraph, IsOpened, IsDue, IsLogged, Belongs}
use Rattle.gc_model.specs.declared.step.StepReply.{StepReply}
use Rattle.gc_model.proofs.Public.{IsReady, certified, corresponding_graphs, flips, lookup_in, in_map_from, named_address, belongs_from, its_replicas, replicas_due}
use Rattle.gc_copy.specs.Words.{CollectionWords, IsCollection, BelongsTo, LinksReplicas, Leads, collection_in, open_state, replicas_in}
use Rattle.gc_copy.proofs.Public.{heap_graph, space_spelled, words_back, block_found_in, HasObjectsOf, flipped_sound, flip_is, new_shown, opened}
use Rattle.gc_concurrent.specs.Ends.{Mine, Theirs}
use Rattle.gc_concurrent.specs.Internal.Plans.{collection_of, plan}
use Rattle.gc_concurrent.specs.Heaps.{heap_of}
use Rattle.gc_concurrent.specs.Unreachable.{CopiesNothingUnreachable}
use Rattle.gc_concurrent.proofs.Keeping.{kept_out}
use Rattle.gc_concurrent.specs.Internal.Rule.{IsConcurrent, Sat}
use Rattle.gc_concurrent.specs.Ends.{its}
use Rattle.gc_concurrent.specs.Internal.Flip.{Flips, Holds, roots_alone, moved_words, new_heap_of, tells_flip}
use Rattle.gc_concurrent.proofs.Joined.{catches_up}
use Rattle.gc_concurrent.proofs.Hands.{same}
use Rattle.gc_concurrent.proofs.Copying.{moved_same}
use Rattle.gc_concurrent.proofs.Logs.{to_two}

-- a link without a mark leads to this replica, or nowhere
leads_there : (o : Option Replica) (link : ℕ) → link ≡ option_map_or (λ (r : Replica). r.place) o 0 → Leads 0 (option_map (λ (r : Replica). r.place) o) link
leads_there (Some r) link e = omega arith
leads_there None link e = omega arith

-- ---- a heap and a collection without logs

-- the collection without entries
abbrev still : ℕ → List Replica → Theirs → Collection
still size replicas t = record { size = size; replicas = replicas; logs = [] ∷ []; scan_place = t.scan_place; scan_field = t.scan_field }

abbrev none_two : List (List (ℕ × ℕ))
none_two = [] ∷ [] ∷ []

none_logged : (m : Mine) (t : Theirs) → m.log ≡ [] → t.due ≡ [] → (a i : ℕ) → IsLogged (collection_of m t) a i → ⊥
none_logged m t x y a i h =
    let h' : (k : ℕ) × In (a, i) (unwrap_or (slice_get none_two k) []) = subst (λ (z : List (ℕ × ℕ) × List (ℕ × ℕ)). (k : ℕ) × In (a, i) (unwrap_or (slice_get (z.0 ∷ z.1 ∷ []) k) [])) (λ j. (x j, y j)) h in
    ⊎_elim (λ (e : ⊥). e) (λ (e : ⊥). e) (to_two (a, i) [] [] h')

never_logged : (size : ℕ) (replicas : List Replica) (t : Theirs) (a i : ℕ) → IsLogged (still size replicas t) a i → ⊥
never_logged size replicas t a i (zero, h) = h
never_logged size replicas t a i (suc k, h) = h

moved_still : (t : Theirs) (v : Value) → moved (still t.size t.replicas t) v ≡ moved (its t) v
moved_still t Nil = refl
moved_still t (Num n) = refl
moved_still t (Ref a) = refl

still_belongs : (objects : List (ℕ × Object)) (m : Mine) (t : Theirs) → m.log ≡ [] → t.due ≡ [] → Belongs objects (collection_of m t) → Belongs objects (still t.size t.replicas t)
still_belongs objects m t x y k =
    let c : Collection = collection_of m t in
    let d : Collection = still t.size t.replicas t in
    belongs_from (IsDue d) objects d
    (replicas_due objects t.size (IsDue c) (IsDue d) t.replicas (its_replicas (IsDue c) objects c k) (λ r l i w u. ⊎_elim (λ e. inl e) (λ e. absurd (none_logged m t x y r.original i e)) u))
    k.scan (λ a i e. absurd (never_logged t.size t.replicas t a i e)) k.numbers

module _ (m : Mine) (t : Theirs) (roots : List ℕ) (heap_is : IsHeap (heap_of m roots)) (h : IsOpened (plan m t) (collection_of m t)) (logged : m.log ≡ []) (applied : t.due ≡ [])
    (scanned : scan_done (its t) ≡ true) (rooted : roots_done (its t) (roots_alone roots) ≡ true) (carried : m.base.referred ≡ false → CopiesNothingUnreachable t) where
  old : IsSpaceGraph m.space.size (free_in m.space) (graph_in (heap_of m roots))
  old = heap_graph (heap_of m roots) heap_is

  original_low : (r : Replica) → In r t.replicas → r.original < 2 ^ 32
  original_low r l =
      let there = (h.belongs).replicas r l in
      let address = named_address m.space.size (free_in m.space) (graph_in (heap_of m roots)) r.original old (there.original, lookup_in (objects_of m.space.words) r.original there.original there.found) in
      omega arith

  pair_low : (p : ℕ × ℕ) → In p (pairs_of (its t)) → p.0 < 2 ^ 32
  pair_low p l = let r = in_map_from (λ (q : Replica). (q.original, q.place)) p t.replicas l in let low = original_low r.0 r.1 in let e = ap (λ (q : ℕ × ℕ). q.0) r.2 in omega arith

  module _ (space : SpaceWords) (holds : Holds space t) where
    abbrev x : CollectionWords
    x = record { space = space; logs = record { entries = []; spare = 0 } ∷ []; scan_place = t.scan_place; scan_field = t.scan_field; epoch = 0 }

    moves : (P : ℕ → List Replica → Type 0) → P t.size t.replicas → P space.size (replicas_in space.words)
    moves P p = subst (λ (z : ℕ × List Replica). P z.0 z.1) (λ i. (sym holds.sized i, holds.same i)) p

    abbrev links : ℕ → ℕ
    links = old_links (collection_in x)

    abbrev words : List ℕ
    words = spelled links (blocks m.space.words)

    abbrev other : HeapWords
    other = record { space = record m.space { words = words }; roots = roots; mutators = 1 }

    again : IsSpace (record m.space { words = words }) × (blocks words ≡ blocks m.space.words)
    again = relinked links m.space heap_is.space

    other_is : IsHeap other
    other_is = record { space = again.0; closed = closed_objects m.space.words words roots again.1 heap_is.closed; roots = heap_is.roots; few = heap_is.few }

    objects : objects_of words ≡ objects_of m.space.words
    objects = ap (map object_entry) again.1

    belongs : Belongs (objects_of words) (collection_in x)
    belongs = subst (λ os. Belongs os (collection_in x)) (sym objects)
        (moves (λ n rs. Belongs (objects_of m.space.words) (still n rs t)) (still_belongs (objects_of m.space.words) m t logged applied h.belongs))

    linked : LinksReplicas 0 other (collection_in x)
    linked a start =
        let b = block_found_in (blocks m.space.words) a (subst (λ bs. is_some (block_in bs a) ≡ true) again.1 start) in
        let found = some_of (block_in (blocks m.space.words) a) (subst (λ bs. is_some (block_in bs a) ≡ true) again.1 start) in
        let e : link_at words a ≡ links a = link_spelled (blocks m.space.words) links a found.0 (laid_out_words m.space.words (heap_is.space).walked) found.1 in
        leads_there (replica_of (collection_in x) a) (link_at words a) e

    to : BelongsTo other x
    to = record { belongs = belongs; links = linked; logs = refl }

    is : IsCollection x
    is = record { space = holds.shaped; logs = omega arith; originals = λ r l. original_low r (subst (In r) (sym holds.same) l) }

    ready : is_ready (collection_in x) (graph_in other) ≡ true
    ready =
        let sc : scan_done (collection_in x) ≡ true = moves (λ n rs. scan_done (still n rs t) ≡ true) scanned in
        let ro : roots_done (collection_in x) (graph_in other) ≡ true = moves (λ n rs. roots_done (still n rs t) (roots_alone roots) ≡ true) rooted in
        λ i. (true && sc i) && ro i

    moved_is : (v : Value) → moved (collection_in x) v ≡ moved (its t) v
    moved_is v = moves (λ n rs. moved (still n rs t) v ≡ moved (its t) v) (moved_still t v)

    same_words : map word_of (map (moved (collection_in x)) (map value_of roots)) ≡ moved_words t roots
    same_words = λ i. map word_of (map (λ v. moved_is v i) (map value_of roots))

    same_object : HasObjectsOf space space
    same_object = record { space = holds.shaped; size = refl; blocks = refl; end = refl }

    heap_there : IsHeap (new_heap_of space roots t)
    heap_there = subst (λ ws. IsHeap (record { space = space; roots = ws; mutators = 1 })) same_words (flipped_sound other x space other_is is to ready same_object)

    graph_there : graph_in (new_heap_of space roots t) ≡ new_graph (its t) (map value_of roots)
    graph_there =
        let e = sym (flip_is other x space other_is is to ready same_object)
        ∙ flips (open_state other x) (collection_in x) (heap_graph other other_is) (opened other x is to) ready in
        let g : graph_in (record { space = space; roots = map word_of (map (moved (collection_in x)) (map value_of roots)); mutators = 1 }) ≡ new_graph (collection_in x) (map value_of roots) = ap (λ (z : StepReply × State). z.1.heap.graph) e in
        ap (λ ws. graph_in (record { space = space; roots = ws; mutators = 1 })) (sym same_words) ∙ (g
        ∙ λ i. record { objects = new_objects (record (its t) { replicas = sym holds.same i }); roots = map (λ v. moved_is v i) (map value_of roots) })

    image_there : image_with space (moved_words t roots) ≡ linked_image (new_links (its t)) t.size (new_graph (its t) (map value_of roots))
    image_there =
        ap (image_with space) (sym same_words) ∙ (new_shown other x is to
        ∙ λ i. linked_image (new_links (record (its t) { replicas = sym holds.same i })) (holds.sized i)
        (record { objects = new_objects (record (its t) { replicas = sym holds.same i }); roots = map (λ v. moved_is v i) (map value_of roots) }))

  abbrev c : Collection
  c = collection_of m t

  all_empty : (a b : List (ℕ × ℕ)) → a ≡ [] → b ≡ [] → list_all is_empty (a ∷ b ∷ []) ≡ true
  all_empty a b x y = λ i. list_all is_empty (x i ∷ y i ∷ [])

  image_is : linked_image (link_at m.space.words) m.space.size (graph_of (image_with m.space roots)) ≡ image_with m.space roots
  image_is = λ i. image_with (record { size = m.space.size; words = sym (space_spelled m.space heap_is.space) i }) (words_back roots i)

  new_graph_same : new_graph c (map value_of roots) ≡ new_graph (its t) (map value_of roots)
  new_graph_same = λ i. record { objects = new_objects (its t); roots = map (λ v. moved_same m t v i) (map value_of roots) }

  ready_there : IsReady (graph_in (heap_of m roots)) c
  ready_there = record { logs = all_empty m.log t.due logged applied; scan = eqb-true t.scan_place (new_end c) scanned; roots = rooted }

  flips_there : Flips roots m t
  flips_there = record {
    certified = λ links. subst (λ (x : Image × Graph). Certified x.0 (linked_image links t.size x.1) (pairs_of (its t))) (λ i. (image_is i, new_graph_same i))
        (certified (link_at m.space.words) links m.space.size (free_in m.space) (graph_in (heap_of m roots)) c old h.belongs h.size ready_there);
    corresponding = subst (Corresponding (pairs_of (its t)) (graph_in (heap_of m roots))) new_graph_same (corresponding_graphs m.space.size (free_in m.space) (graph_in (heap_of m roots)) c old h.belongs h.size ready_there);
    heap = heap_there;
    graph = graph_there;
    image = image_there;
    low = pair_low;
    carried = carried;
  }

-- any load with both ends at hand
pub flips_rule : (slots size k id : ℕ) (me : Sat) → me.0.writes ≡ true → me.0.copies ≡ true
    → Allows (IsConcurrent size) slots id me k (λ x. x) (tells_flip (step slots k 0 0 none) me)
flips_rule slots size k id me writes copies s r _ seat _ =
    let own = r.seats id me.0 seat in
    let mine : me.0.mine ≡ r.mine = ((own.0) writes).1 in
    let theirs : me.0.theirs ≡ r.theirs = ((own.1) copies).1 in (
      me.0,
      keeps,
      tt,
      same size s k id me.1 me.0 seat r,
      (
        refl,
        catches_up size s r id me.0 seat writes copies,
        λ roots fine done. subst (λ (x : Mine × Theirs). Flips roots x.0 x.1) (λ i. (sym mine i, sym theirs i))
            (flips_there r.mine r.theirs roots (subst (λ (m : Mine). IsHeap (heap_of m roots)) mine fine) r.opened
            (ap (λ (m : Mine). m.log) (sym mine) ∙ done.logged) (ap (λ (t : Theirs). t.due) (sym theirs) ∙ done.applied)
            (subst (λ (t : Theirs). scan_done (its t) ≡ true) theirs done.scanned) (subst (λ (t : Theirs). roots_done (its t) (roots_alone roots) ≡ true) theirs done.rooted) (kept_out r.mine r.theirs r.carries)),
      ),
    )
