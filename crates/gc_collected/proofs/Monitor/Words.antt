-- A watch that goes along watches the words of both spaces.
-- For the theorem that what the monitor accepts is certified.
use Rattle.std.proofs.lemmas.Grind.{common_steps}
use Rattle.std.proofs.Common.{◌≡◌, ◌≢◌, inl, inr, ⊎_elim, ℕ, ◌/◌, ◌%◌, ◌<◌, ◌==◌, nat_lt, Bool, true, false, cond, List, length, Option, Some, None, refl, ap, sym, ◌∙◌, subst, arith}
use Rattle.std.specs.Prelude.{slice_get}
use Rattle.std.specs.Option.{option_map}
use Rattle.std.specs.List.{All, AllPairs}
use Rattle.std.proofs.lemmas.Bool.{cases_Bool, eqb-true, lt-ltb, or_left, or_right}
use Rattle.gc_graph.specs.Graph.{Value, Nil, Num, Ref, Object, lookup}
use Rattle.gc_graph.specs.Correspond.{correspond}
use Rattle.gc_words.specs.Word.{value_of, is_value, read_correspond, words_correspond, field_value, field_words_correspond}
use Rattle.gc_words.specs.Image.{Block, HasShape, block_at, objects_of, object_of_block}
use Rattle.gc_words.specs.Space.{SpaceWords, IsSpace, end_of}
use Rattle.gc_words.specs.declared.header.Header.{Header}
use Rattle.gc_words.proofs.Public.{object_found, fields_counted, stands_in}
use Rattle.std.proofs.lemmas.Option.{slice_get-map}
use Rattle.gc_heap.specs.Heap.{HeapWords, IsHeap, graph_in}
use Rattle.gc_model.specs.State.{Replica, pairs_of}
use Rattle.gc_model.specs.Members.{In}
use Rattle.gc_copy.specs.Words.{CollectionWords, IsCollection, collection_in, BelongsTo}
use Rattle.gc_model.proofs.Public.{pairs_rise, pairs_once, in_map_from, all_from_in, pair, replicas_end, paired_in}
use Rattle.gc_copy.proofs.Public.{replica_object, new_end_is}
use Rattle.gc_monitor.specs.Watch.{Watch, IsSeen, IsWatched, Watches, seen_at}
use Rattle.gc_collected.specs.Internal.Stays.{GoesAlong}
use Rattle.gc_monitor.proofs.Public.{all_of}

-- ---- a whole space is seen

whole : (space : SpaceWords) (n : ℕ) → IsSpace space → n ≡ end_of space → IsSeen n space.words
whole space n is e = grind (arith, common_steps, all_of)

-- the object at an address is a block there
block_of : (words : List ℕ) (a : ℕ) (o : Object) → lookup (objects_of words) a ≡ Some o → (b : Block) × (block_at words a ≡ Some b) × (object_of_block b ≡ o)
block_of words a o found = grind (arith, common_steps, object_found)

-- ---- words whose values correspond

odd_is_value : (w : ℕ) → (w % 2 == 1) ≡ true → is_value w ≡ true
odd_is_value w h = or_left (w % 2 == 1) (nat_lt w 8589934590) h

low_is_value : (w : ℕ) → w < 8589934590 → is_value w ≡ true
low_is_value w h = or_right (w % 2 == 1) (nat_lt w 8589934590) (lt-ltb w 8589934590 h)

-- a word is a value if its reference, where it is one, is an address
address_is_value : (w : ℕ) → ((a : ℕ) → value_of w ≡ Ref a → a < 4294967295) → is_value w ≡ true
address_is_value w h = elim (cases_Bool (w == 0)) [
  | inl nil ↦ (let e : w ≡ 0 = eqb-true w 0 nil in low_is_value w (omega arith))
  | inr some ↦ elim (cases_Bool (w % 2 == 1)) [
    | inl odd ↦ odd_is_value w odd
    | inr even ↦
        (let is : value_of w ≡ Ref (w / 2) = (λ i. cond (some i) Nil (cond (even i) (Num (w / 2)) (Ref (w / 2)))) in
        let low : w / 2 < 4294967295 = h (w / 2) is in
        low_is_value w (omega arith))
  ]
]

values_read : (pairs : List (ℕ × ℕ)) (v u : ℕ) → is_value v ≡ true → is_value u ≡ true → correspond pairs (value_of v) (value_of u) ≡ true → words_correspond pairs v u ≡ true
values_read pairs v u f g h = (λ i. read_correspond pairs (cond (f i) (Some (value_of v)) None) (cond (g i) (Some (value_of u)) None)) ∙ h

abbrev AreLow : List (ℕ × ℕ) → Type 0
AreLow pairs = (a b : ℕ) → In {X = ℕ × ℕ} (a, b) pairs → (a < 4294967295) × (b < 4294967295)

low_old : (pairs : List (ℕ × ℕ)) (v u : Value) → AreLow pairs → correspond pairs v u ≡ true → (a : ℕ) → v ≡ Ref a → a < 4294967295
low_old pairs Nil u low h a e = absurd cc
low_old pairs (Num n) u low h a e = absurd cc
low_old pairs (Ref c) Nil low h a e = absurd cc
low_old pairs (Ref c) (Num n) low h a e = absurd cc
low_old pairs (Ref c) (Ref b) low h a e = let s : c ≡ a = cc in let m : c < 4294967295 = (low c b (paired_in pairs c b h)).0 in omega arith

low_new : (pairs : List (ℕ × ℕ)) (v u : Value) → AreLow pairs → correspond pairs v u ≡ true → (b : ℕ) → u ≡ Ref b → b < 4294967295
low_new pairs v Nil low h b e = absurd cc
low_new pairs v (Num n) low h b e = absurd cc
low_new pairs Nil (Ref c) low h b e = absurd cc
low_new pairs (Num n) (Ref c) low h b e = absurd cc
low_new pairs (Ref a) (Ref c) low h b e = let s : c ≡ b = cc in let m : c < 4294967295 = (low a c (paired_in pairs a c h)).1 in omega arith

field_words : (h k : Header) (pairs : List (ℕ × ℕ)) (v u : ℕ) → AreLow pairs → k.raw ≡ h.raw → correspond pairs (field_value h v) (field_value k u) ≡ true → field_words_correspond h pairs v u ≡ true
field_words h k pairs v u low same agree = go h.raw refl
  where
    go : (b : Bool) → h.raw ≡ b → field_words_correspond h pairs v u ≡ true
    go true is = grind (arith, common_steps, pairs)
    go false is =
        let plain : correspond pairs (value_of v) (value_of u) ≡ true = (λ i. correspond pairs (cond (sym is i) (Num v) (value_of v)) (cond (sym (same ∙ is) i) (Num u) (value_of u))) ∙ agree in
        ap (λ t. cond t (v == u) (words_correspond pairs v u)) is
        ∙ values_read pairs v u (address_is_value v (low_old pairs (value_of v) (value_of u) low plain)) (address_is_value u (low_new pairs (value_of v) (value_of u) low plain)) plain

-- ---- the words of both spaces

module _ (heap : HeapWords) (x : CollectionWords) (w : Watch) (heap_is : IsHeap heap) (is : IsCollection x) (k : BelongsTo heap x) (h : GoesAlong (graph_in heap).objects (end_of heap.space) (collection_in x) w) where
  new_seen_is : w.new_seen ≡ end_of x.space
  new_seen_is = h.fits.new_seen ∙ new_end_is x is.space

  abbrev pairs : List (ℕ × ℕ)
  pairs = pairs_of (collection_in x)

  -- both blocks of a replica
  old_block : (r : Replica) (l : In r (collection_in x).replicas) → (b : Block) × (block_at heap.space.words r.original ≡ Some b) × (object_of_block b ≡ (h.replicas r l).original)
  old_block r l = block_of heap.space.words r.original (h.replicas r l).original (h.replicas r l).found

  new_block : (r : Replica) → In r (collection_in x).replicas → (b : Block) × (block_at x.space.words r.place ≡ Some b) × (object_of_block b ≡ r.object)
  new_block r l = block_of x.space.words r.place r.object (replica_object (graph_in heap).objects x r k.belongs l)

  below : (words : List ℕ) (a : ℕ) (b : Block) → IsSpace (record { size = 4294967295; words = words }) → block_at words a ≡ Some b → a < 4294967295
  below words a b shape e = grind (arith, common_steps, (stands_in words a b shape.walked e).fits)

  old_whole : IsSpace (record { size = 4294967295; words = heap.space.words })
  old_whole = subst (λ ws. HasShape true 4294967295 (length ws) ws) (all_of w.old_seen heap.space.words h.fits.old_seen) (whole heap.space w.old_seen heap_is.space h.fits.old_seen).space

  new_whole : IsSpace (record { size = 4294967295; words = x.space.words })
  new_whole = subst (λ ws. HasShape true 4294967295 (length ws) ws) (all_of w.new_seen x.space.words new_seen_is) (whole x.space w.new_seen is.space new_seen_is).space

  low : AreLow pairs
  low a b m =
      let s = in_map_from pair (a, b) (collection_in x).replicas m in
      let r = s.0 in
      let o = old_block r s.1 in
      let n = new_block r s.1 in
      let e : r.original ≡ a = ap (λ (p : ℕ × ℕ). p.0) s.2 in
      let d : r.place ≡ b = ap (λ (p : ℕ × ℕ). p.1) s.2 in
      let p : r.original < 4294967295 = below heap.space.words r.original o.0 old_whole o.1 in
      let q : r.place < 4294967295 = below x.space.words r.place n.0 new_whole n.1 in
      (omega arith, omega arith)

  its_blocks : (r : Replica) (l : In r (collection_in x).replicas) (o n : Option Block) → block_at heap.space.words r.original ≡ o → block_at x.space.words r.place ≡ n → IsWatched w r.place o n
  its_blocks r l o n e d =
      let ok = h.replicas r l in
      let old = old_block r l in
      let new = new_block r l in
      let b = old.0 in
      let c = new.0 in
      let raw : c.header.raw ≡ b.header.raw = ap (λ (q : Object). q.raw) new.2 ∙ (ok.raw ∙ sym (ap (λ (q : Object). q.raw) old.2)) in
      let kind : c.header.kind ≡ b.header.kind = ap (λ (q : Object). q.kind) new.2 ∙ (ok.kind ∙ sym (ap (λ (q : Object). q.kind) old.2)) in
      let len : c.header.len ≡ b.header.len =
      sym (fields_counted x.space.words r.place c is.space.walked new.1)
      ∙ (ap (λ (q : Object). length q.fields) new.2 ∙ (ok.len ∙ (sym (ap (λ (q : Object). length q.fields) old.2) ∙ fields_counted heap.space.words r.original b heap_is.space.walked old.1))) in
      let same : b.header ≡ c.header = (λ i. record { raw = sym raw i; kind = sym kind i; len = sym len i }) in
      subst (λ z. IsWatched w r.place z n) (sym old.1 ∙ e) (subst (IsWatched w r.place (Some b)) (sym new.1 ∙ d) (
        same,
        λ i v u f g.
            let at_old : slice_get ok.original.fields i ≡ Some (field_value b.header v) = ap (λ (q : Object). slice_get q.fields i) (sym old.2) ∙ (slice_get-map (field_value b.header) b.fields i ∙ ap (option_map (field_value b.header)) f) in
            let at_new : slice_get r.object.fields i ≡ Some (field_value c.header u) = ap (λ (q : Object). slice_get q.fields i) (sym new.2) ∙ (slice_get-map (field_value c.header) c.fields i ∙ ap (option_map (field_value c.header)) g) in
            ⊎_elim
            (λ t. inl t)
            (λ t. inr (subst (λ ps. field_words_correspond b.header ps v u ≡ true) (sym h.fits.pairs) (field_words b.header c.header pairs v u low raw t)))
            (ok.current i (field_value b.header v) (field_value c.header u) at_old at_new),
      ))

  pub watches : Watches heap.space.words x.space.words w
  watches = record {
    old_seen = whole heap.space w.old_seen heap_is.space h.fits.old_seen;
    new_seen = whole x.space w.new_seen is.space new_seen_is;
    pairs = subst (All (λ p. IsWatched w p.1 (seen_at w.old_seen heap.space.words p.0) (seen_at w.new_seen x.space.words p.1))) (sym h.fits.pairs)
        (all_from_in (λ (p : ℕ × ℕ). IsWatched w p.1 (seen_at w.old_seen heap.space.words p.0) (seen_at w.new_seen x.space.words p.1)) pairs (λ p m.
        let s = in_map_from pair p (collection_in x).replicas m in
        subst (λ (q : ℕ × ℕ). IsWatched w q.1 (seen_at w.old_seen heap.space.words q.0) (seen_at w.new_seen x.space.words q.1)) s.2
        (its_blocks s.0 s.1 (seen_at w.old_seen heap.space.words s.0.original) (seen_at w.new_seen x.space.words s.0.place)
        (ap (λ ws. block_at ws s.0.original) (sym (all_of w.old_seen heap.space.words h.fits.old_seen)))
        (ap (λ ws. block_at ws s.0.place) (sym (all_of w.new_seen x.space.words new_seen_is))))));
    row = h.fits.row;
    rising = subst (AllPairs (λ p q. p.1 < q.1)) (sym h.fits.pairs) (pairs_rise 1 (collection_in x).replicas (replicas_end (collection_in x).replicas) k.belongs.laid);
    once = subst (AllPairs (λ p q. p.0 ≢ q.0)) (sym h.fits.pairs) (pairs_once (collection_in x).replicas k.belongs.once);
  }
