-- The state of a heap of words with its open collection, and the invariant that ties them together.
use Rattle.std.proofs.lemmas.List.Folds.{find-append}
use Rattle.std.proofs.lemmas.Grind.{common_steps}
use Rattle.gc_words.proofs.Public.{block_there, closed_field_read, stands_in, CanPlaceBlock, some_of, can_place_fresh, link_written, link_written_there, link_written_beside, object_found, field_found, graph_link, meaning_back, block_of_header, fields_counted, end_written, none_of, IsBlock, StandsIn}
use Rattle.std.proofs.Common.{◌≡◌, ◌≢◌, ⊎_elim, inl, ℕ, ◌+◌, ◌-◌, ◌<◌, ◌≤◌, ◌==◌, nat_lt, Bool, true, false, cond, List, [], ◌∷◌, ◌++◌, length, Option, Some, None, Result, is_some, refl, ap, sym, ◌∙◌, subst, arith}
use Rattle.std.specs.List.{find}
use Rattle.std.proofs.lemmas.Bool.{cases_Bool, cases_lt, cond-true, cond-false, cond_both, eqb-true, eqb-false, eq-eqb, ne_eqb, le-ltb, lt-ltb, ltb-false}
use Rattle.std.proofs.lemmas.List.{length-map}
use Rattle.std.specs.Option.{option_map, option_map_or}
use Rattle.std.specs.Prelude.{IsOk, ◌^◌, IsSome, OnErr, IfSome}
use Rattle.gc_heap.proofs.Public.{named}
use Rattle.gc_graph.specs.Graph.{Value, Nil, Num, Ref, Object, Graph, lookup, field_of}
use Rattle.gc_words.specs.Word.{HasAddress, word_of, field_value}
use Rattle.gc_words.specs.Word.{value_of}
use Rattle.gc_words.specs.Image.{walk_words, Block, blocks, header_of, block_in, block_at, is_start, header_at, field_in, field_at, object_of_block, objects_of}
use Rattle.gc_words.specs.Spelling.{link_at}
use Rattle.gc_words.specs.Layout.{link_place, field_place}
use Rattle.gc_words.specs.Space.{SpaceWords, IsSpace, HasRoomFor, end_of, free_in, with_block, with_word}
use Rattle.gc_words.specs.Closed.{IsRootWord, IsWordOfField}
use Rattle.gc_words.specs.declared.header.Header.{Header}
use Rattle.gc_graph.specs.Graph.{name_of}
use Rattle.gc_heap.specs.Heap.{HeapWords, IsHeap, graph_in}
use Rattle.gc_model.specs.State.{Replica, Collection, State, new_objects, new_end, new_free, replica_of, moved}
use Rattle.gc_model.specs.Steps.{fresh_replica, place_replica, with_replica, with_written, write_replica, bring_value, bring_up_to_date, collect}
use Rattle.gc_model.specs.Members.{In}
use Rattle.gc_model.proofs.Public.{in_push, in_right, in_map, in_map_from, find_exists, get_within, get_past, laid_range, lookup_laid, placed, place_written, with_written_pair, replica_in, open_keeps, placing_keeps, bringing_keeps}
use Rattle.gc_model.specs.Belonging.{IsDue, Belongs, IsOpened}
use Rattle.gc_copy.specs.Words.{CollectionWords, IsCollection, entries_of, replicas_in, collection_in, open_state, mark_of, Leads, LinksReplicas, BelongsTo}
use Rattle.gc_model.specs.Staying.{HasReplicaOf}
use Rattle.gc_copy.specs.Internal.Words.{replica_block, KeepsGraph, KeepsRest, KeepsStarts}
use Rattle.gc_model.specs.declared.step.Step.{Step}
use Rattle.gc_model.specs.declared.step.Step.TheVariants as steps
use Rattle.gc_model.specs.declared.step.StepReply.{StepReply}
use Rattle.gc_copy.proofs.Starts.{starts_on, starts_placed, starts_written}
use Rattle.gc_copy.proofs.Spaces.{count_placed, replica_at_end, replica_block_object, space_placed, space_written, new_objects_are, new_end_is}

-- ---- the heap without its links

graph_kept : (old new : HeapWords) → KeepsGraph old new → graph_in new ≡ graph_in old
graph_kept old new k = ap (λ h. h.graph) k.heap

pub same_graph : (h : HeapWords) → KeepsGraph h h
same_graph h = record { mutators = refl; size = refl; roots = refl; heap = refl; blocks = refl }

pub start_kept : (old new : HeapWords) (a : ℕ) → KeepsGraph old new → is_start new.space.words a ≡ is_start old.space.words a
start_kept old new a k = ap (λ bs. is_some (block_in bs a)) k.blocks

-- mutators do not see links
pub linked_heap : (heap : HeapWords) (name place : ℕ) → IsHeap heap → is_start heap.space.words name ≡ true → KeepsGraph heap (record heap { space = with_word heap.space (link_place name) place })
linked_heap heap name place is start = grind (arith, common_steps, graph_link, end_written, link_written)

-- ---- the collection as a part of a state

pub opened : (heap : HeapWords) (c : CollectionWords) → IsCollection c → BelongsTo heap c → IsOpened (open_state heap c) (collection_in c)
opened heap c is k = record { belongs = k.belongs; size = (is.space).size_high; logs = length-map c.logs entries_of ∙ k.logs }

-- a collection belongs to the heap of words if it belongs to the state and the links lead to its replicas
closed : (heap new : HeapWords) (before after : CollectionWords) → KeepsGraph heap new → BelongsTo heap before → length after.logs ≡ length before.logs → IsOpened (open_state heap before) (collection_in after) → LinksReplicas after.epoch new (collection_in after) → BelongsTo new after
closed heap new before after same k count is links = grind (arith, common_steps, graph_kept)

-- after a step other than a flip
pub after_step : (heap new : HeapWords) (c next : CollectionWords) (step : Step) (reply : StepReply) → step ≢ steps.Flip → IsCollection c → BelongsTo heap c → KeepsGraph heap new → length next.logs ≡ length c.logs
    → collect (open_state heap c) step ≡ (reply, open_state new next) → LinksReplicas next.epoch new (collection_in next) → BelongsTo new next
after_step heap new c next step reply other is k same count e links =
    closed heap new c next same k count
    (subst (λ (x : StepReply × State). IfSome x.1.collection (IsOpened (open_state heap c))) e (open_keeps (open_state heap c) (collection_in c) step refl (opened heap c is k) other))
    links

-- ---- finding

find_push : {X : Type 0} (p : X → Bool) (xs : List X) (y : X) → find p xs ≡ None → p y ≡ true → find p (xs ++ y ∷ []) ≡ Some y
find_push p xs y none is = grind (arith, common_steps, find-append)

find_push_other : {X : Type 0} (p : X → Bool) (xs : List X) (y : X) → p y ≡ false → find p (xs ++ y ∷ []) ≡ find p xs
find_push_other p xs y is = grind (arith, common_steps, find-append)

-- where an object's replica is, if it has one
abbrev place_in : Collection → ℕ → Option ℕ
place_in c a = option_map (λ (r : Replica). r.place) (replica_of c a)

-- what a link has above the mark is the place to which it leads, or 0
pub link_above : (epoch : ℕ) (o : Option Replica) (link : ℕ) → Leads epoch (option_map (λ (r : Replica). r.place) o) link → link - mark_of epoch ≡ option_map_or (λ (r : Replica). r.place) o 0
link_above epoch None link leads = omega (arith, leads)
link_above epoch (Some r) link leads = omega (arith, leads)

-- writing a field of a replica moves none, so links lead where they led
links_written : (heap : HeapWords) (epoch : ℕ) (c d : Collection) (name i : ℕ) (v : Value) → d ≡ write_replica c name i v → LinksReplicas epoch heap c → LinksReplicas epoch heap d
links_written heap epoch c d name i v written links a start =
    subst (λ o. Leads epoch o (link_at heap.space.words a)) (sym (ap (λ (e : Collection). place_in e a) written ∙ place_written c.replicas name i a v)) (links a start)

-- ---- a replica is placed

links_placed : (heap : HeapWords) (epoch : ℕ) (c : Collection) (r : Replica) → IsHeap heap → is_start heap.space.words r.original ≡ true → LinksReplicas epoch heap c → replica_of c r.original ≡ None
    → LinksReplicas epoch (record heap { space = with_word heap.space (link_place r.original) (mark_of epoch + r.place) }) (record c { replicas = c.replicas ++ r ∷ [] })
links_placed heap epoch c r is start links none a there = ⊎_elim
    (λ t.
    let here : r.original ≡ a = eqb-true r.original a t in
    let found : replica_of (record c { replicas = c.replicas ++ r ∷ [] }) a ≡ Some r = find_push (λ (q : Replica). q.original == a) c.replicas r (subst (λ n. replica_of c n ≡ None) here none) t in
    let written : link_at (with_word heap.space (link_place r.original) (mark_of epoch + r.place)).words a ≡ mark_of epoch + r.place
    = subst (λ n. link_at (with_word heap.space (link_place r.original) (mark_of epoch + r.place)).words n ≡ mark_of epoch + r.place) here (link_written_there heap.space r.original (mark_of epoch + r.place) is.space start) in
    subst (λ (o : Option Replica). Leads epoch (option_map (λ (r : Replica). r.place) o) (link_at (with_word heap.space (link_place r.original) (mark_of epoch + r.place)).words a)) (sym found) written)
    (λ f.
    let found : replica_of (record c { replicas = c.replicas ++ r ∷ [] }) a ≡ replica_of c a = find_push_other (λ (q : Replica). q.original == a) c.replicas r f in
    let old : is_start heap.space.words a ≡ true = sym (start_kept heap (record heap { space = with_word heap.space (link_place r.original) (mark_of epoch + r.place) }) a (linked_heap heap r.original (mark_of epoch + r.place) is start)) ∙ there in
    subst (λ l. Leads epoch (place_in (record c { replicas = c.replicas ++ r ∷ [] }) a) l) (sym (link_written_beside heap.space r.original (mark_of epoch + r.place) a (eqb-false r.original a f)))
    (subst (λ (o : Option Replica). Leads epoch (option_map (λ (r : Replica). r.place) o) (link_at heap.space.words a)) (sym found) (links a old)))
    (cases_Bool (r.original == a))

can_place_replica : (s : SpaceWords) (b : Block) → IsSpace s → IsBlock b → HasRoomFor s b.header.len → CanPlaceBlock s (replica_block b)
can_place_replica s b shaped whole room = grind (arith, common_steps, cond_both, can_place_fresh)

-- the new replica starts at the old end
pub placed_start : (s one : SpaceWords) (words : List ℕ) (a place : ℕ) → IsSpace s → IsOk (walk_words words) → is_start words a ≡ true → ((h : Header) → header_at words a ≡ Some h → HasRoomFor s h.len)
    → ((b : Block) → block_at words a ≡ Some b → one ≡ with_block s (replica_block b)) → place ≡ end_of s → is_start one.words place ≡ true
placed_start s one words a place shaped walked start room made at =
    let b = some_of (block_at words a) start in
    let whole = (stands_in words a b.0 walked b.1).whole in
    (λ i. is_start (made b.0 b.1 i).words (at i)) ∙ ap is_some (block_there s (replica_block b.0) (can_place_replica s b.0 shaped whole (room b.0.header (ap header_of b.1))))

pub record Placing (heap new : HeapWords) (c next : CollectionWords) (name : ℕ) : Type 0 where
  pub sound : IsCollection next
  pub placed : place_replica (collection_in c) name (lookup (graph_in heap).objects name) ≡ Some (collection_in next)
  pub belongs : BelongsTo new next
  pub graph : KeepsGraph heap new
  pub rest : KeepsRest c next
  pub starts : KeepsStarts c.space next.space
  pub counted : (n : ℕ) → n ≡ length (blocks c.space.words) → n + 1 ≡ length (blocks next.space.words)

module _ (heap : HeapWords) (c : CollectionWords) (name : ℕ) (h : Header) (heap_is : IsHeap heap) (is : IsCollection c) (header : header_at heap.space.words name ≡ Some h) where
  abbrev pub block : (b : Block) × (block_at heap.space.words name ≡ Some b) × (b.header ≡ h)
  block = block_of_header heap.space.words name h header

  object : Object
  object = object_of_block block.0

  found : lookup (graph_in heap).objects name ≡ Some (object_of_block block.0)
  found = object_found heap.space.words name ∙ ap (option_map object_of_block) block.1

  count : length (object_of_block block.0).fields ≡ h.len
  count = fields_counted heap.space.words name block.0 (heap_is.space).walked block.1 ∙ ap (λ (k : Header). k.len) block.2

  free : new_free (collection_in c) ≡ free_in c.space
  free = ap (λ n. c.space.size - n) (new_end_is c is.space)

  pub full : (HasRoomFor c.space h.len → ⊥) → place_replica (collection_in c) name (lookup (graph_in heap).objects name) ≡ None
  full none = grind (arith, common_steps, found, cond-true, lt-ltb, count, free, cases_lt)

  stands : StandsIn heap.space.words name block.0
  stands = stands_in heap.space.words name block.0 (heap_is.space).walked block.1

  small : name < 2 ^ 32
  small = let fits = stands.fits in let count = (heap_is.space).count in let high = (heap_is.space).end_high in let size = (heap_is.space).size_high in omega arith

  placing : BelongsTo heap c → is_start heap.space.words name ≡ true → replica_of (collection_in c) name ≡ None → HasRoomFor c.space h.len
      → Placing heap (record heap { space = with_word heap.space (link_place name) (mark_of c.epoch + end_of c.space) }) c (record c { space = with_word (with_block c.space (replica_block block.0)) (link_place (end_of c.space)) name }) name
  placing k start none room = record {
    sound = record {
      space = made.0;
      logs = is.logs;
      originals = λ r l. ⊎_elim
          (λ old. is.originals r old)
          (λ new. subst (λ n. n < 2 ^ 32) (ap (λ (q : Replica). q.original) new) small)
          (in_push r (replica_at_end c.space (replica_block block.0) name) (replicas_in c.space.words) (subst (In r) made.1 l));
    };
    placed = step;
    belongs = closed heap next_heap c next (linked_heap heap name (mark_of c.epoch + end_of c.space) heap_is start) k refl
        (placing_keeps (open_state heap c) (collection_in c) (collection_in next) name (opened heap c is k) none step)
        (subst (LinksReplicas c.epoch next_heap) (sym grown) (links_placed heap c.epoch (collection_in c) (replica_at_end c.space (replica_block block.0) name) heap_is start k.links none));
    graph = linked_heap heap name (mark_of c.epoch + end_of c.space) heap_is start;
    rest = record { size = refl; logs = refl; scan_place = refl; scan_field = refl; epoch = refl };
    starts = starts_placed c.space (replica_block block.0) name can;
    counted = λ n e. count_placed n c.space.words next.space.words (replica_at_end c.space (replica_block block.0) name) e made.1;
  }
    where
      next : CollectionWords
      next = record c { space = with_word (with_block c.space (replica_block block.0)) (link_place (end_of c.space)) name }

      next_heap : HeapWords
      next_heap = record heap { space = with_word heap.space (link_place name) (mark_of c.epoch + end_of c.space) }

      can : CanPlaceBlock c.space (replica_block block.0)
      can = can_place_replica c.space block.0 is.space stands.whole (subst (λ (k : Header). HasRoomFor c.space k.len) (sym block.2) room)

      made : IsSpace (next.space) × (replicas_in next.space.words ≡ replicas_in c.space.words ++ replica_at_end c.space (replica_block block.0) name ∷ [])
      made = space_placed c.space (replica_block block.0) name can

      grown : collection_in next ≡ record (collection_in c) { replicas = replicas_in c.space.words ++ replica_at_end c.space (replica_block block.0) name ∷ [] }
      grown = λ i. record (collection_in c) { replicas = made.1 i }

      fits : nat_lt (new_free (collection_in c)) (length (object_of_block block.0).fields + 2) ≡ false
      fits = le-ltb _ _ (omega (arith, room, count, free))

      same : fresh_replica name (new_end (collection_in c)) (object_of_block block.0) ≡ replica_at_end c.space (replica_block block.0) name
      same = grind (arith, common_steps, new_end_is, object, replica_block_object, stands)

      step : place_replica (collection_in c) name (lookup (graph_in heap).objects name) ≡ Some (collection_in next)
      step = grind (arith, common_steps, found, cond-false, nat_lt, fits, same, grown)

-- ---- the target of a word gets its replica

-- the target already has a replica, or there is no target
replicated_already : (c : Collection) (g : Graph) (w : ℕ) → HasReplicaOf c (value_of w) → with_replica c g (value_of w) ≡ Some c
replicated_already c g w h = grind (arith, common_steps, cond-true)

-- once placed, the target has a replica
placed_has : (c next : Collection) (a : ℕ) (o : Option Object) → place_replica c a o ≡ Some next → IsSome (replica_of next a)
placed_has c next a None e = absurd (let no : None ≡ Some next = e in cc)
placed_has c next a (Some o) e = by (nat_lt (new_free c) (length o.fields + 2)) e
  where
    by : (b : Bool) → cond b None (Some (record c { replicas = c.replicas ++ fresh_replica a (new_end c) o ∷ [] })) ≡ Some next → IsSome (replica_of next a)
    by true e = absurd (let no : None ≡ Some next = e in cc)
    by false e =
        let same : record c { replicas = c.replicas ++ fresh_replica a (new_end c) o ∷ [] } ≡ next = (let f : Some (record c { replicas = c.replicas ++ fresh_replica a (new_end c) o ∷ [] }) ≡ Some next = e in cc) in
        let r : (r : Replica) × (find (λ (q : Replica). q.original == a) (c.replicas ++ fresh_replica a (new_end c) o ∷ []) ≡ Some r) = find_exists (λ (q : Replica). q.original == a) (c.replicas ++ fresh_replica a (new_end c) o ∷ []) (fresh_replica a (new_end c) o) (in_right (fresh_replica a (new_end c) o) c.replicas (fresh_replica a (new_end c) o ∷ []) (inl refl)) (eq-eqb a a refl) in
        subst (λ (d : Collection). IsSome (replica_of d a)) same (ap is_some r.1)

-- and its replica is at the old end
placed_at : (c next : Collection) (a : ℕ) (o : Option Object) → replica_of c a ≡ None → place_replica c a o ≡ Some next → option_map (λ r. r.place) (replica_of next a) ≡ Some (new_end c)
placed_at c next a None none e = absurd (let no : None ≡ Some next = e in cc)
placed_at c next a (Some o) none e = by (nat_lt (new_free c) (length o.fields + 2)) e
  where
    by : (b : Bool) → cond b None (Some (record c { replicas = c.replicas ++ fresh_replica a (new_end c) o ∷ [] })) ≡ Some next → option_map (λ r. r.place) (replica_of next a) ≡ Some (new_end c)
    by true e = absurd (let no : None ≡ Some next = e in cc)
    by false e =
        let same : record c { replicas = c.replicas ++ fresh_replica a (new_end c) o ∷ [] } ≡ next = (let f : Some (record c { replicas = c.replicas ++ fresh_replica a (new_end c) o ∷ [] }) ≡ Some next = e in cc) in
        subst (λ (d : Collection). option_map (λ (r : Replica). r.place) (replica_of d a) ≡ Some (new_end c)) same
        (ap (option_map (λ (r : Replica). r.place)) (find_push (λ (q : Replica). q.original == a) c.replicas (fresh_replica a (new_end c) o) none (eq-eqb a a refl)))

-- so a word that refers to it becomes a reference to that place
pub placed_word : (c next : Collection) (w a end : ℕ) (o : Option Object) → Some a ≡ name_of (value_of w) → replica_of c a ≡ None → place_replica c a o ≡ Some next → end ≡ new_end c → Ref end ≡ moved next (value_of w)
placed_word c next w a end o e none p at =
    subst (λ v. Ref end ≡ moved next v) (sym (named (value_of w) a e)) (go (replica_of next a) (placed_at c next a o none p))
  where
    go : (found : Option Replica) → option_map (λ (r : Replica). r.place) found ≡ Some (new_end c) → Ref end ≡ Ref (option_map_or (λ (r : Replica). r.place) found a)
    go None f = absurd (let no : None ≡ Some (new_end c) = f in cc)
    go (Some r) f = ap Ref (at ∙ (let s : Some (new_end c) ≡ Some r.place = sym f in cc))

-- ---- a field is brought up to date

pub record Bringing (c next : CollectionWords) (name i : ℕ) (v : Value) : Type 0 where
  pub sound : IsCollection next
  pub copied : collection_in next ≡ write_replica (collection_in c) name i v
  pub rest : KeepsRest c next

-- the word that the code writes into the replica's field
bringing : (objects : List (ℕ × Object)) (c : CollectionWords) (name i w place : ℕ) (v : Value) → IsCollection c → Belongs objects (collection_in c) → option_map (λ r. r.place) (replica_of (collection_in c) name) ≡ Some place → IsSome (field_at c.space.words place i)
    → ((r : Replica) → replica_of (collection_in c) name ≡ Some r → cond r.object.raw (Num w) (value_of w) ≡ v)
    → Bringing c (record c { space = with_word c.space (field_place place i) w }) name i v
bringing objects c name i w place v is belongs found there means = from (replica_of (collection_in c) name) refl found
  where
    at : (r : Replica) → replica_of (collection_in c) name ≡ Some r → IsSome (field_at c.space.words r.place i) → Bringing c (record c { space = with_word c.space (field_place r.place i) w }) name i v
    at r e there =
        let made = space_written (IsDue (collection_in c)) objects c name i w r v is.space belongs e there (means r e) in
        record {
          sound = record {
            space = made.0;
            logs = is.logs;
            originals = λ q l.
                let k = in_map_from (with_written name i v) q (replicas_in c.space.words) (subst (In q) made.1 l) in
                let o : k.0.original ≡ q.original = ap (λ (p : ℕ × ℕ). p.0) (sym (with_written_pair name i v k.0)) ∙ ap (λ (p : Replica). p.original) k.2 in
                subst (λ n. n < 2 ^ 32) o (is.originals k.0 k.1);
          };
          copied = λ j. record (collection_in c) { replicas = made.1 j };
          rest = record { size = refl; logs = refl; scan_place = refl; scan_field = refl; epoch = refl };
        }

    from : (o : Option Replica) → replica_of (collection_in c) name ≡ o → option_map (λ r. r.place) o ≡ Some place → Bringing c (record c { space = with_word c.space (field_place place i) w }) name i v
    from o e f = grind (arith, common_steps, at)

-- ---- fields

pub block_of_object : (words : List ℕ) (a : ℕ) (o : Object) → lookup (objects_of words) a ≡ Some o → (b : Block) × (block_at words a ≡ Some b) × (object_of_block b ≡ o)
block_of_object words a o e = grind (arith, common_steps, object_found)

-- an object has as many fields as its words say
pub field_present : (words : List ℕ) (a i : ℕ) (o : Object) → lookup (objects_of words) a ≡ Some o → i < length o.fields → IsSome (field_at words a i)
field_present words a i o e less =
    let b = block_of_object words a o e in
    ap is_some (ap (λ x. field_in x i) b.1 ∙ (get_within b.0.fields i (omega (arith, ap (λ (x : Object). length x.fields) (sym b.2) ∙ length-map b.0.fields (field_value b.0.header), less))).1)

field_below : (words : List ℕ) (a i : ℕ) (o : Object) → lookup (objects_of words) a ≡ Some o → IsSome (field_at words a i) → i < length o.fields
field_below words a i o e there = grind (arith, common_steps, block_of_object, count, length-map, some_of, get_past)

pub replica_object : (objects : List (ℕ × Object)) (c : CollectionWords) (r : Replica) → Belongs objects (collection_in c) → In r (replicas_in c.space.words) → lookup (objects_of c.space.words) r.place ≡ Some r.object
replica_object objects c r belongs l = grind (arith, common_steps, object, new_objects_are, lookup_laid, in_map, placed)

-- the replica has every field that the original has
field_of_replica : (heap : HeapWords) (c : CollectionWords) (name i place : ℕ) → Belongs (graph_in heap).objects (collection_in c) → option_map (λ r. r.place) (replica_of (collection_in c) name) ≡ Some place
    → IsSome (field_at heap.space.words name i) → IsSome (field_at c.space.words place i)
field_of_replica heap c name i place belongs found there = from (replica_of (collection_in c) name) refl found
  where
    from : (o : Option Replica) → replica_of (collection_in c) name ≡ o → option_map (λ r. r.place) o ≡ Some place → IsSome (field_at c.space.words place i)
    from None e f = absurd (let no : None ≡ Some place = f in cc)
    from (Some r) e f =
        let l = replica_in (collection_in c) name r e in
        let ok = belongs.replicas r l.0 in
        let less : i < length ok.original.fields = field_below heap.space.words name i ok.original (subst (λ n. lookup (graph_in heap).objects n ≡ Some ok.original) l.1 ok.found) there in
        subst (λ n. IsSome (field_at c.space.words n i)) (let s : Some r.place ≡ Some place = f in cc)
        (field_present c.space.words r.place i r.object (replica_object (graph_in heap).objects c r belongs l.0) (let same = ok.len in omega arith))

-- a replica is raw exactly if its original is
replica_raw : (heap : HeapWords) (c : CollectionWords) (name i w : ℕ) (r : Replica) (raw : Bool) → Belongs (graph_in heap).objects (collection_in c) → replica_of (collection_in c) name ≡ Some r → field_at heap.space.words name i ≡ Some w
    → ((h : Header) → header_at heap.space.words name ≡ Some h → h.raw ≡ raw) → r.object.raw ≡ raw
replica_raw heap c name i w r raw belongs e field is =
    let l = replica_in (collection_in c) name r e in
    let ok = belongs.replicas r l.0 in
    let b = block_of_object heap.space.words name ok.original (subst (λ n. lookup (graph_in heap).objects n ≡ Some ok.original) l.1 ok.found) in
    ok.raw ∙ sym (ap (λ (o : Object). o.raw) b.2) ∙ is b.0.header (ap header_of b.1)

-- ---- moved values

-- the place of a replica is an address
pub replica_address : (objects : List (ℕ × Object)) (c : CollectionWords) (r : Replica) → IsCollection c → Belongs objects (collection_in c) → In r (replicas_in c.space.words) → (1 ≤ r.place) × (r.place < 4294967295)
replica_address objects c r is belongs l =
    let range = laid_range 1 (new_objects (collection_in c)) (new_end (collection_in c)) (placed r) belongs.laid (in_map placed r (replicas_in c.space.words) l) in
    (range.0, omega (arith, range, belongs.room, (is.space).size_high))

-- so is the place of a new one
pub placed_address : (c : CollectionWords) (next : Collection) (a : ℕ) (o : Option Object) → IsCollection c → place_replica (collection_in c) a o ≡ Some next → (1 ≤ end_of c.space) × (end_of c.space < 4294967295)
placed_address c next a None is p = absurd (let no : None ≡ Some next = p in cc)
placed_address c next a (Some o) is p = go (nat_lt (new_free (collection_in c)) (length o.fields + 2)) refl p
  where
    go : (b : Bool) → nat_lt (new_free (collection_in c)) (length o.fields + 2) ≡ b → cond b None (Some (record (collection_in c) { replicas = replicas_in c.space.words ++ fresh_replica a (new_end (collection_in c)) o ∷ [] })) ≡ Some next → (1 ≤ end_of c.space) × (end_of c.space < 4294967295)
    go true e f = absurd (let no : None ≡ Some next = f in cc)
    go false e f =
        let room : length o.fields + 2 ≤ c.space.size - new_end (collection_in c) = ltb-false _ _ e in
        let at : new_end (collection_in c) ≡ end_of c.space = new_end_is c is.space in
        ((is.space).end_low, (let size = (is.space).size_high in omega (arith, room, at, size)))

moved_address : (objects : List (ℕ × Object)) (c : CollectionWords) (v : Value) → IsCollection c → Belongs objects (collection_in c) → HasReplicaOf (collection_in c) v → HasAddress (moved (collection_in c) v)
moved_address objects c Nil is belongs h = tt
moved_address objects c (Num n) is belongs h = tt
moved_address objects c (Ref a) is belongs h =
    let r = some_of (replica_of (collection_in c) a) h in
    subst (λ o. HasAddress (Ref (option_map_or (λ (r : Replica). r.place) o a))) (sym r.1) (replica_address objects c r.0 is belongs (replica_in (collection_in c) a r.0 r.1).0)

header_of_field : (words : List ℕ) (name i w : ℕ) → field_at words name i ≡ Some w → (h : Header) × (header_at words name ≡ Some h)
header_of_field words name i w e = from (block_at words name) refl e
  where
    from : (x : Option Block) → block_at words name ≡ x → field_in x i ≡ Some w → (h : Header) × (header_at words name ≡ Some h)
    from None f g = absurd (let no : None ≡ Some w = g in cc)
    from (Some b) f g = (b.header, ap header_of f)

-- the word in a field of a heap's object
field_value_is : (heap : HeapWords) (name i w : ℕ) (h : Header) → header_at heap.space.words name ≡ Some h → field_at heap.space.words name i ≡ Some w → field_of (lookup (graph_in heap).objects name) i ≡ Some (field_value h w)
field_value_is heap name i w h header e =
    let b = block_of_header heap.space.words name h header in
    field_found heap.space.words name i b.0 b.1 ∙ ap (option_map (field_value b.0.header)) e ∙ ap (λ (k : Header). Some (field_value k w)) b.2

-- an object that is not raw holds values
plain_value : (h : Header) (w : ℕ) → h.raw ≡ false → field_value h w ≡ value_of w
plain_value h w plain = ap (λ b. cond b (Num w) (value_of w)) plain

pub plain_value_is : (heap : HeapWords) (name i w : ℕ) → ((h : Header) → header_at heap.space.words name ≡ Some h → h.raw ≡ false) → field_at heap.space.words name i ≡ Some w → field_of (lookup (graph_in heap).objects name) i ≡ Some (value_of w)
plain_value_is heap name i w plain e =
    let h = header_of_field heap.space.words name i w e in
    field_value_is heap name i w h.0 h.1 e ∙ ap Some (plain_value h.0 w (plain h.0 h.1))

-- the step of the definition, made of the code's two: the target first, then the field
brought : (g : Graph) (c one : Collection) (name i : ℕ) (v : Value) → field_of (lookup g.objects name) i ≡ Some v → with_replica c g v ≡ Some one
    → bring_up_to_date c g name i ≡ Some (write_replica one name i (moved one v))
brought g c one name i v field target = ap (bring_value c g name i) field ∙ ap (λ o. option_map (λ (d : Collection). write_replica d name i (moved d v)) o) target

-- placing one object's replica leaves the others
kept_replica : (c next : Collection) (g : Graph) (v : Value) (a place : ℕ) → with_replica c g v ≡ Some next → option_map (λ r. r.place) (replica_of c a) ≡ Some place → option_map (λ r. r.place) (replica_of next a) ≡ Some place
kept_replica c next g v a place e found = grind (arith, common_steps, found, ne_eqb, find_push_other, none_of)

-- what an object's link has above the mark is its replica's address, or 0
pub record Tells (c : CollectionWords) (a link : ℕ) : Type 0 where
  pub small : link < 2 ^ 32
  pub none : link ≡ 0 → option_map (λ r. r.place) (replica_of (collection_in c) a) ≡ None
  pub some : (link ≡ 0 → ⊥) → option_map (λ r. r.place) (replica_of (collection_in c) a) ≡ Some link
  pub address : (link ≡ 0 → ⊥) → (1 ≤ link) × (link < 4294967295)

pub link_tells : (heap : HeapWords) (c : CollectionWords) (a link : ℕ) → IsCollection c → BelongsTo heap c → is_start heap.space.words a ≡ true → link ≡ link_at heap.space.words a - mark_of c.epoch → Tells c a link
link_tells heap c a link is k start e = from (replica_of (collection_in c) a) refl (e ∙ link_above c.epoch (replica_of (collection_in c) a) _ (k.links a start))
  where
    from : (o : Option Replica) → replica_of (collection_in c) a ≡ o → link ≡ option_map_or (λ (r : Replica). r.place) o 0 → Tells c a link
    from None f g = record { small = omega arith; none = λ z. ap (option_map (λ (r : Replica). r.place)) f; some = λ n. absurd (n g); address = λ n. absurd (n g) }
    from (Some r) f g =
        let at : (1 ≤ r.place) × (r.place < 4294967295) = replica_address (graph_in heap).objects c r is k.belongs (replica_in (collection_in c) a r f).0 in
        record {
          small = omega (arith, at);
          none = λ z. absurd (omega (arith, at, z));
          some = λ n. ap (option_map (λ (r : Replica). r.place)) f ∙ ap Some (sym g);
          address = λ n. ((omega (arith, at)), (omega (arith, at)));
        }

-- the code that places a replica, from the clauses of its calls
pub placing_done : (heap new : HeapWords) (c next : CollectionWords) (name end link place : ℕ) (h : Header) (one : SpaceWords) → IsHeap heap → IsCollection c → BelongsTo heap c → is_start heap.space.words name ≡ true → replica_of (collection_in c) name ≡ None
    → header_at heap.space.words name ≡ Some h → HasRoomFor c.space h.len
    → end ≡ end_of c.space → ((b : Block) → block_at heap.space.words name ≡ Some b → one ≡ with_block c.space (replica_block b)) → link ≡ name → next ≡ record c { space = with_word one (link_place end) link } → place ≡ mark_of c.epoch + end → new ≡ record heap { space = with_word heap.space (link_place name) place }
    → Placing heap new c next name
placing_done heap new c next name end link place h one heap_is is k start none header room at made linked after there heap_after =
    let b = block_of_header heap.space.words name h header in
    let next_is : next ≡ record c { space = with_word (with_block c.space (replica_block b.0)) (link_place (end_of c.space)) name } = after ∙ (λ i. record c { space = with_word (made b.0 b.1 i) (link_place (at i)) (linked i) }) in
    let new_is : new ≡ record heap { space = with_word heap.space (link_place name) (mark_of c.epoch + end_of c.space) } = heap_after ∙ ap (λ n. record heap { space = with_word heap.space (link_place name) n }) (there ∙ ap (λ n. mark_of c.epoch + n) at) in
    let done = placing heap c name h heap_is is header k start none room in
    subst (λ x. Placing heap x c next name) (sym new_is) (subst (λ x. Placing heap (record heap { space = with_word heap.space (link_place name) (mark_of c.epoch + end_of c.space) }) c x name) (sym next_is) done)

-- ---- results

pub if_err : {X Y : Type 0} (P : Type 0) (r : Result X Y) → P → OnErr r P
if_err P r h = grind (arith, common_steps)

-- ---- facts about the heap's words

pub has_placed : (c next : Collection) (w a : ℕ) (o : Option Object) → Some a ≡ name_of (value_of w) → place_replica c a o ≡ Some next → HasReplicaOf next (value_of w)
has_placed c next w a o e p = subst (HasReplicaOf next) (sym (named (value_of w) a e)) (placed_has c next a o p)

pub field_word_is : (heap : HeapWords) (name i w : ℕ) → IsHeap heap → ((h : Header) → header_at heap.space.words name ≡ Some h → h.raw ≡ false) → field_at heap.space.words name i ≡ Some w → IsRootWord heap.space.words w
field_word_is heap name i w is plain e = from (block_at heap.space.words name) refl e
  where
    from : (x : Option Block) → block_at heap.space.words name ≡ x → field_in x i ≡ Some w → IsRootWord heap.space.words w
    from None f g = absurd (let no : None ≡ Some w = g in cc)
    from (Some b) f g = subst (λ raw. IsWordOfField raw heap.space.words w) (plain b.header (ap header_of f)) (closed_field_read heap.space.words heap.roots name i w b is.closed f e)

field_kept : (old new : HeapWords) (a i : ℕ) → KeepsGraph old new → field_at new.space.words a i ≡ field_at old.space.words a i
field_kept old new a i k = ap (λ bs. field_in (block_in bs a) i) k.blocks

-- ---- the code that brings a field up to date

pub record Brought (heap new : HeapWords) (c next : CollectionWords) (name i : ℕ) : Type 0 where
  pub sound : IsCollection next
  pub brought : bring_up_to_date (collection_in c) (graph_in heap) name i ≡ Some (collection_in next)
  pub belongs : BelongsTo new next
  pub rest : KeepsRest c next
  pub starts : KeepsStarts c.space next.space

-- `c` is the collection before, `one` that in which what the field refers to has its replica, and `x` is its parts
module _ (heap new : HeapWords) (c one x : CollectionWords) (name i w place : ℕ) (heap_is : IsHeap heap) (plain : (h : Header) → header_at heap.space.words name ≡ Some h → h.raw ≡ false) (is : IsCollection x) (seen : x ≡ one) (k : BelongsTo new one) (graph : KeepsGraph heap new) (rest : KeepsRest c one) (starts : KeepsStarts c.space one.space)
    (field : field_at heap.space.words name i ≡ Some w) (target : with_replica (collection_in c) (graph_in heap) (value_of w) ≡ Some (collection_in one)) (has : HasReplicaOf (collection_in one) (value_of w))
    (replica : option_map (λ r. r.place) (replica_of (collection_in c) name) ≡ Some place) where
  belongs_here : BelongsTo new x
  belongs_here = subst (BelongsTo new) (sym seen) k

  has_here : HasReplicaOf (collection_in x) (value_of w)
  has_here = subst (λ y. HasReplicaOf (collection_in y) (value_of w)) (sym seen) has

  replica_here : option_map (λ r. r.place) (replica_of (collection_in x) name) ≡ Some place
  replica_here = subst (λ y. option_map (λ (r : Replica). r.place) (replica_of (collection_in y) name) ≡ Some place) (sym seen) (kept_replica (collection_in c) (collection_in one) (graph_in heap) (value_of w) name place target replica)

  field_new : field_at new.space.words name i ≡ Some w
  field_new = field_kept heap new name i graph ∙ field

  plain_new : (h : Header) → header_at new.space.words name ≡ Some h → h.raw ≡ false
  plain_new h e = plain h (sym (ap (λ bs. header_of (block_in bs name)) graph.blocks) ∙ e)

  pub present : IsSome (field_at x.space.words place i)
  present = field_of_replica new x name i place belongs_here.belongs replica_here (ap is_some field_new)

  pub brought_words : (moved_word : ℕ) → moved_word ≡ word_of (moved (collection_in one) (value_of w)) → (next : CollectionWords) → next ≡ record x { space = with_word x.space (field_place place i) moved_word } → Brought heap new c next name i
  brought_words moved_word moved_is next after = subst (λ y. Brought heap new c y name i) (sym after) (record {
    sound = made.sound;
    brought = brought (graph_in heap) (collection_in c) (collection_in x) name i (value_of w) (plain_value_is heap name i w plain field) (subst (λ y. with_replica (collection_in c) (graph_in heap) (value_of w) ≡ Some (collection_in y)) (sym seen) target) ∙ ap Some (sym copied);
    belongs = closed new new x after_words (same_graph new) belongs_here refl
        (bringing_keeps (open_state new x) (collection_in x) (collection_in after_words) name i (opened new x is belongs_here)
        (brought (graph_in new) (collection_in x) (collection_in x) name i (value_of w) (plain_value_is new name i w plain_new field_new) (replicated_already (collection_in x) (graph_in new) w has_here) ∙ ap Some (sym copied)))
        (links_written new x.epoch (collection_in x) (collection_in after_words) name i (moved (collection_in x) (value_of w)) copied belongs_here.links);
    rest = subst (λ (y : CollectionWords). KeepsRest c (record y { space = with_word y.space (field_place place i) moved_word })) (sym seen) (record { size = rest.size; logs = rest.logs; scan_place = rest.scan_place; scan_field = rest.scan_field; epoch = rest.epoch });
    starts = starts_on c.space x.space after_words.space (subst (λ (y : CollectionWords). KeepsStarts c.space y.space) (sym seen) starts) (starts_written x.space place i moved_word is.space present);
  })
    where
      after_words : CollectionWords
      after_words = record x { space = with_word x.space (field_place place i) moved_word }

      made : Bringing x after_words name i (value_of moved_word)
      made = bringing (graph_in new).objects x name i moved_word place (value_of moved_word) is belongs_here.belongs replica_here present
          (λ r e. ap (λ b. cond b (Num moved_word) (value_of moved_word)) (replica_raw new x name i w r false belongs_here.belongs e field_new plain_new))

      value_is : value_of moved_word ≡ moved (collection_in x) (value_of w)
      value_is =
          ap value_of (moved_is ∙ ap (λ (y : CollectionWords). word_of (moved (collection_in y) (value_of w))) (sym seen))
          ∙ (meaning_back (moved (collection_in x) (value_of w)) (moved_address (graph_in new).objects x (value_of w) is belongs_here.belongs has_here)).1

      copied : collection_in after_words ≡ write_replica (collection_in x) name i (moved (collection_in x) (value_of w))
      copied = made.copied ∙ ap (write_replica (collection_in x) name i) value_is

-- the same for a raw field, whose word is copied
module _ (heap : HeapWords) (c x : CollectionWords) (name i w place : ℕ) (heap_is : IsHeap heap) (raw : (h : Header) → header_at heap.space.words name ≡ Some h → h.raw ≡ true) (is : IsCollection x) (seen : x ≡ c) (k : BelongsTo heap c)
    (field : field_at heap.space.words name i ≡ Some w) (replica : option_map (λ r. r.place) (replica_of (collection_in c) name) ≡ Some place) where
  belongs_raw : BelongsTo heap x
  belongs_raw = subst (BelongsTo heap) (sym seen) k

  replica_here_raw : option_map (λ r. r.place) (replica_of (collection_in x) name) ≡ Some place
  replica_here_raw = subst (λ y. option_map (λ (r : Replica). r.place) (replica_of (collection_in y) name) ≡ Some place) (sym seen) replica

  pub raw_present : IsSome (field_at x.space.words place i)
  raw_present = field_of_replica heap x name i place belongs_raw.belongs replica_here_raw (ap is_some field)

  number : field_of (lookup (graph_in heap).objects name) i ≡ Some (Num w)
  number =
      let h = header_of_field heap.space.words name i w field in
      field_value_is heap name i w h.0 h.1 field ∙ ap (λ b. Some (cond b (Num w) (value_of w))) (raw h.0 h.1)

  pub copied_words : (next : CollectionWords) → next ≡ record x { space = with_word x.space (field_place place i) w } → Brought heap heap c next name i
  copied_words next after = subst (λ y. Brought heap heap c y name i) (sym after) (subst (λ y. Brought heap heap y after_words name i) seen (record {
    sound = made.sound;
    brought = step;
    belongs = closed heap heap x after_words (same_graph heap) belongs_raw refl
        (bringing_keeps (open_state heap x) (collection_in x) (collection_in after_words) name i (opened heap x is belongs_raw) step)
        (links_written heap x.epoch (collection_in x) (collection_in after_words) name i (Num w) made.copied belongs_raw.links);
    rest = record { size = refl; logs = refl; scan_place = refl; scan_field = refl; epoch = refl };
    starts = starts_written x.space place i w is.space raw_present;
  }))
    where
      after_words : CollectionWords
      after_words = record x { space = with_word x.space (field_place place i) w }

      made : Bringing x after_words name i (Num w)
      made = bringing (graph_in heap).objects x name i w place (Num w) is belongs_raw.belongs replica_here_raw raw_present
          (λ r e. ap (λ b. cond b (Num w) (value_of w)) (replica_raw heap x name i w r true belongs_raw.belongs e field raw))

      step : bring_up_to_date (collection_in x) (graph_in heap) name i ≡ Some (collection_in after_words)
      step = ap (bring_value (collection_in x) (graph_in heap) name i) number ∙ ap Some (sym made.copied)
