-- The code of a flip does the model's flip, and keeps all objects of the space.
use Rattle.std.proofs.lemmas.Grind.{common_steps}
use Rattle.gc_model.proofs.Public.{small_corresponding, placed, in_get, in_map, in_map_from, all_from_in, replica_field, IsReady, ready_parts, new_heap, named_address, flips}
use Rattle.std.specs.Prelude.{◌^◌}
use Rattle.std.specs.Option.{option_map}
use Rattle.gc_words.specs.declared.header.Header.{Header}
use Rattle.std.proofs.Common.{◌*◌, ◌≡◌, inl, inr, ℕ, ◌/◌, ◌%◌, ◌<◌, ◌≤◌, ◌==◌, ◌||◌, nat_lt, Bool, true, false, cond, List, [], ◌∷◌, map, length, Option, Some, None, refl, ap, sym, ◌∙◌, subst, arith}
use Rattle.std.proofs.lemmas.Bool.{eqb-true, eqb-false, lt-ltb}
use Rattle.std.proofs.lemmas.List.{length-map}
use Rattle.gc_graph.specs.Graph.{lookup, Value, Nil, Num, Ref, Object}
use Rattle.gc_words.specs.Word.{value_of, word_of, field_value, HasAddress}
use Rattle.gc_words.specs.Image.{field_in, block_at, Block, blocks, is_start, object_entry, object_of_block, objects_of}
use Rattle.gc_words.specs.Spelling.{link_at}
use Rattle.gc_words.specs.Space.{SpaceWords, IsSpace, end_of, free_in, without_links}
use Rattle.gc_words.specs.Closed.{IsWordOfField, RefersToStart, IsRootWord, IsFieldWord, HasFieldWords}
use Rattle.gc_words.proofs.Public.{object_found, meaning_back, cleared, end_cleared, closed_field_read, closed_objects}
use Rattle.gc_heap.specs.Heap.{HeapWords, IsHeap, graph_in}
use Rattle.gc_model.specs.State.{new_objects, new_free, new_graph, pairs_of}
use Rattle.gc_model.specs.Steps.{is_ready, flip, flipped}
use Rattle.gc_model.specs.Members.{In}
use Rattle.gc_model.specs.Belonging.{IsSmall, IsNamed, RefersTo, IsSpaceGraph}
use Rattle.gc_copy.specs.Words.{CollectionWords, IsCollection, collection_in, idle_state, open_state, mark_of, replica_entry, BelongsTo, new_root_words}
use Rattle.gc_model.specs.declared.step.StepReply.TheVariants.{Flipped}
use Rattle.gc_copy.proofs.Words.{heap_graph, block_found_in}
use Rattle.gc_copy.proofs.Spaces.{in_start, new_objects_are, new_end_is}
use Rattle.gc_copy.proofs.OpenCollection.{opened}

-- ---- links cleared

-- the links of replicas are addresses, so none is above the mark
pub below_the_mark : (c : CollectionWords) → IsCollection c → (epoch : ℕ) → 1 ≤ epoch → (a : ℕ) → is_start c.space.words a ≡ true → link_at c.space.words a ≤ mark_of epoch
below_the_mark c is epoch high a start =
    let b = block_found_in (blocks c.space.words) a start in
    let small : link_at c.space.words a < 2 ^ 32 = is.originals (replica_entry c.space.words (a, b.0)) (in_map (replica_entry c.space.words) (a, b.0) (blocks c.space.words) b.1) in
    let mark : mark_of epoch ≡ epoch * 4294967296 = refl in
    omega arith

-- ---- words that refer to objects

-- the raw words of a heap are below 2^63
raw_words_small : (heap : HeapWords) → IsHeap heap → (a : ℕ) (o : Object) → lookup (graph_in heap).objects a ≡ Some o → o.raw ≡ true → (v : Value) → In v o.fields → IsSmall v
raw_words_small heap is a o found raw v m = from (block_at heap.space.words a) refl (sym (object_found heap.space.words a) ∙ found)
  where
    from : (y : Option Block) → block_at heap.space.words a ≡ y → option_map object_of_block y ≡ Some o → IsSmall v
    from None e f = absurd (let no : None ≡ Some o = f in cc)
    from (Some b) e f =
        let same : object_of_block b ≡ o = (let s : Some (object_of_block b) ≡ Some o = f in cc) in
        let header : b.header.raw ≡ true = ap (λ (q : Object). q.raw) same ∙ raw in
        let w = in_map_from (field_value b.header) v b.fields (subst (λ (q : Object). In v q.fields) (sym same) m) in
        let i = in_get w.0 b.fields w.1 in
        let small : w.0 < 2 ^ 63 = subst (λ r. IsWordOfField r heap.space.words w.0) header (closed_field_read heap.space.words heap.roots a i.0 w.0 b is.closed e (ap (λ y. field_in y i.0) e ∙ i.1)) in
        subst IsSmall (ap (λ r. cond r (Num w.0) (value_of w.0)) (sym header) ∙ w.2) small

word_fine : (words : List ℕ) (w : ℕ) → ((a : ℕ) → IsNamed (objects_of words) a → (1 ≤ a) × (a < 4294967295)) → RefersTo (IsNamed (objects_of words)) (value_of w) → IsRootWord words w
word_fine words w address named = by (w == 0) refl (w % 2 == 1) refl named
  where
    start : (a : ℕ) → IsNamed (objects_of words) a → is_start words a ≡ true
    start a n =
        let e = in_map_from object_entry (a, n.0) (blocks words) n.1 in
        subst (λ p. is_start words p ≡ true) (ap (λ (x : ℕ × Object). x.0) e.2) (in_start words e.0 e.1)

    refers : (v : Value) → RefersTo (IsNamed (objects_of words)) v → RefersToStart words v
    refers v h = grind (arith, common_steps, start)

    even : (b : Bool) → w < 8589934590 → (b || nat_lt w 8589934590) ≡ true
    even b h = grind (arith, common_steps, lt-ltb)

    by : (z : Bool) → (w == 0) ≡ z → (o : Bool) → (w % 2 == 1) ≡ o → RefersTo (IsNamed (objects_of words)) (cond z Nil (cond o (Num (w / 2)) (Ref (w / 2)))) → IsRootWord words w
    by true e o f h = record { value = even (w % 2 == 1) (let is : w ≡ 0 = eqb-true w 0 e in omega arith); start = refers (value_of w) named }
    by false e true f h = record { value = ap (λ b. b || nat_lt w 8589934590) f; start = refers (value_of w) named }
    by false e false f h =
        let high = (address (w / 2) h).1 in
        let isnt : w % 2 ≡ 1 → ⊥ = eqb-false (w % 2) 1 f in
        record { value = even (w % 2 == 1) (omega arith); start = refers (value_of w) named }

-- ---- the flip

-- a space that differs from another one in links alone
pub record HasObjectsOf (old new : SpaceWords) : Type 0 where
  pub space : IsSpace new
  pub size : new.size ≡ old.size
  pub blocks : blocks new.words ≡ blocks old.words
  pub end : end_of new ≡ end_of old

pub without_its_links : (s : SpaceWords) → IsSpace s → HasObjectsOf s (without_links s)
without_its_links s is = record { space = (cleared s is).0; size = refl; blocks = (cleared s is).1; end = end_cleared s is }

-- the heap gets this space, which has the objects of the collection's
module _ (heap : HeapWords) (x : CollectionWords) (space : SpaceWords) (heap_is : IsHeap heap) (is : IsCollection x) (k : BelongsTo heap x) (ready : is_ready (collection_in x) (graph_in heap) ≡ true) (same : HasObjectsOf x.space space) where
  old_ok : IsSpaceGraph heap.space.size (free_in heap.space) (graph_in heap)
  old_ok = heap_graph heap heap_is

  parts : IsReady (graph_in heap) (collection_in x)
  parts = ready_parts (collection_in x) (graph_in heap) ready

  new_ok : IsSpaceGraph x.space.size (new_free (collection_in x)) (new_graph (collection_in x) (graph_in heap).roots)
  new_ok = new_heap heap.space.size (free_in heap.space) (graph_in heap) (collection_in x) old_ok k.belongs (is.space).size_high parts

  address : (a : ℕ) → IsNamed (objects_of x.space.words) a → (1 ≤ a) × (a < 4294967295)
  address a n = named_address x.space.size (new_free (collection_in x)) (new_graph (collection_in x) (graph_in heap).roots) a new_ok (subst (λ os. IsNamed os a) (sym (new_objects_are x)) n)

  here_refers : (v : Value) → RefersTo (IsNamed (new_objects (collection_in x))) v → RefersTo (IsNamed (objects_of x.space.words)) v
  here_refers v h = subst (λ os. RefersTo (IsNamed os) v) (new_objects_are x) h

  has_address : (v : Value) → RefersTo (IsNamed (objects_of x.space.words)) v → HasAddress v
  has_address Nil h = tt
  has_address (Num n) h = tt
  has_address (Ref a) h = address a h

  -- the new roots, and their words
  roots_back : (vs : List Value) → ((v : Value) → In v vs → RefersTo (IsNamed (objects_of x.space.words)) v) → map value_of (map word_of vs) ≡ vs
  roots_back [] h = refl
  roots_back (v ∷ vs) h = λ i. ((meaning_back v (has_address v (h v (inl refl)))).1) i ∷ (roots_back vs (λ w l. h w (inr l))) i

  -- a replica's raw words are its original's
  raw_small : (e : ℕ × Block) → In e (blocks x.space.words) → e.1.header.raw ≡ true → (w : ℕ) → In w e.1.fields → w < 2 ^ 63
  raw_small e l raw w m =
      let r = in_map_from placed (object_entry e) (collection_in x).replicas (subst (In (object_entry e)) (sym (new_objects_are x)) (in_map object_entry e (blocks x.space.words) l)) in
      let ok = (k.belongs).replicas r.0 r.1 in
      let value : field_value e.1.header w ≡ Num w = ap (λ b. cond b (Num w) (value_of w)) raw in
      let there : In (Num w) r.0.object.fields = subst (λ v. In v r.0.object.fields) value (subst (λ (y : ℕ × Object). In (field_value e.1.header w) y.1.fields) (sym r.2) (in_map (field_value e.1.header) w e.1.fields m)) in
      let f = replica_field (graph_in heap) (collection_in x) k.belongs parts r.0 r.1 (Num w) there in
      let was : ok.original.raw ≡ true = sym ok.raw ∙ (ap (λ (y : ℕ × Object). y.1.raw) r.2 ∙ raw) in
      small_corresponding (pairs_of (collection_in x)) f.0 (Num w) f.2 (raw_words_small heap heap_is r.0.original ok.original ok.found was f.0 f.1)

  field_fine : (h : Header) (w : ℕ) → (h.raw ≡ true → w < 2 ^ 63) → RefersTo (IsNamed (objects_of x.space.words)) (field_value h w) → IsFieldWord x.space.words h w
  field_fine h w small refers = go h.raw refl refers
    where
      go : (raw : Bool) → h.raw ≡ raw → RefersTo (IsNamed (objects_of x.space.words)) (cond raw (Num w) (value_of w)) → IsWordOfField raw x.space.words w
      go true is refers = small is
      go false is refers = word_fine x.space.words w address refers

  field_words : (e : ℕ × Block) → In e (blocks x.space.words) → HasFieldWords x.space.words e.1
  field_words e l = all_from_in (IsFieldWord x.space.words e.1.header) e.1.fields (λ w m.
      let o : In (object_entry e) (new_objects (collection_in x)) = subst (In (object_entry e)) (sym (new_objects_are x)) (in_map object_entry e (blocks x.space.words) l) in
      field_fine e.1.header w (λ raw. raw_small e l raw w m)
      (here_refers (field_value e.1.header w) ((new_ok.objects e.0 (object_of_block e.1) o).fields (field_value e.1.header w) (in_map (field_value e.1.header) w e.1.fields m))))

  root_words : (w : ℕ) → In w (new_root_words heap (collection_in x)) → IsRootWord x.space.words w
  root_words w l =
      let v = in_map_from word_of w (new_graph (collection_in x) (graph_in heap).roots).roots l in
      let refers = here_refers v.0 (new_ok.roots v.0 v.1) in
      word_fine x.space.words w address (subst (RefersTo (IsNamed (objects_of x.space.words))) (sym (ap value_of (sym v.2) ∙ (meaning_back v.0 (has_address v.0 refers)).1)) refers)

  moved_count : length (new_root_words heap (collection_in x)) ≡ length heap.roots
  moved_count = grind (arith, common_steps, length-map)

  pub flipped_sound : IsHeap (record heap { space = space; roots = new_root_words heap (collection_in x) })
  flipped_sound = record {
    space = same.space;
    closed = closed_objects x.space.words space.words (new_root_words heap (collection_in x)) same.blocks (record {
      fields = all_from_in (λ (e : ℕ × Block). HasFieldWords x.space.words e.1) (blocks x.space.words) field_words;
      roots = all_from_in (IsRootWord x.space.words) (new_root_words heap (collection_in x)) root_words;
    });
    roots = omega (arith, moved_count, heap_is.roots);
    few = omega (arith, moved_count, heap_is.few);
  }

  state_after : flipped (open_state heap x) (collection_in x) ≡ idle_state (record heap { space = space; roots = new_root_words heap (collection_in x) })
  state_after = grind (arith, common_steps, new_objects_are, roots_back, here_refers, new_ok, new_end_is)

  pub flip_is : flip (open_state heap x) (collection_in x) ≡ (Flipped (length (pairs_of (collection_in x))), idle_state (record heap { space = space; roots = new_root_words heap (collection_in x) }))
  flip_is =
      flips (open_state heap x) (collection_in x) old_ok (opened heap x is k) ready
      ∙ (λ i. (Flipped (counted i), state_after i))
    where
      counted : length (collection_in x).replicas ≡ length (pairs_of (collection_in x))
      counted = grind (arith, common_steps, length-map)
