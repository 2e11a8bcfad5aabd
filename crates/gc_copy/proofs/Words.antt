-- The words of a space are spelled by the objects of its graph, so a heap's image is that of its graph.
use Rattle.std.proofs.lemmas.Grind.{common_steps}
use Rattle.std.proofs.Common.{◌≡◌, ⊎_elim, inl, inr, ℕ, ◌+◌, ◌-◌, ◌<◌, ◌==◌, true, List, [], ◌∷◌, map, length, Some, is_some, All, refl, ap, sym, ◌∙◌, subst, arith, length-append}
use Rattle.std.proofs.lemmas.Bool.{cases_Bool, cond-false, eqb-true, eqb-false}
use Rattle.std.proofs.lemmas.List.{length-map}
use Rattle.std.proofs.lemmas.Option.{slice_get-get_or}
use Rattle.gc_graph.specs.Graph.{Value, Nil, Num, Ref, Object}
use Rattle.gc_words.specs.Word.{value_of, word_of, field_value}
use Rattle.gc_words.specs.Image.{Block, blocks, block_in, object_of_block, object_entry, objects_of}
use Rattle.gc_words.specs.Spelling.{block_words, spelled, spelled_from, link_at}
use Rattle.gc_words.proofs.Public.{IsBlock, LaidOut, object_found, spelled_words, laid_out_words}
use Rattle.gc_words.specs.Space.{SpaceWords, IsSpace, free_in}
use Rattle.gc_words.specs.Closed.{RefersToStart, IsRootWord, IsFieldWord, HasFieldWords}
use Rattle.gc_words.specs.declared.header.Header.{Header}
use Rattle.gc_heap.specs.Heap.{HeapWords, IsHeap, image_of, graph_in}
use Rattle.gc_model.specs.Linked.{field_word, block_entry, linked_image}
use Rattle.gc_model.specs.Members.{In}
use Rattle.gc_model.specs.Belonging.{Laid, IsNamed, RefersTo, IsObject, HasRawNumbers, IsSpaceGraph}
use Rattle.gc_model.proofs.Public.{in_map, in_map_from, in_get, get_past}

-- what holds of all elements holds of each
in_all : {X : Type 0} (P : X → Type 0) (xs : List X) (x : X) → All P xs → In x xs → P x
in_all P xs x all k =
    let i = in_get x xs k in
    let within : i.0 < length xs = get_past xs i.0 x i.1 in
    subst P (let e = slice_get-get_or xs i.0 x within in cc (sym e ∙ i.1)) (all i.0 x within)

pub block_found_in : (bs : List (ℕ × Block)) (a : ℕ) → is_some (block_in bs a) ≡ true → (b : Block) × In (a, b) bs
block_found_in [] a h = absurd cc
block_found_in (e ∷ rest) a h = ⊎_elim
    (λ t. (e.1, inl (ap (λ n. (n, e.1)) (eqb-true e.0 a t))))
    (λ f. let r = block_found_in rest a (ap is_some (sym (cond-false (e.0 == a) (Some e.1) (block_in rest a) f)) ∙ h) in (r.0, inr r.1))
    (cases_Bool (e.0 == a))

-- each block of a list that is laid out is well formed
laid_whole : (at : ℕ) (bs : List (ℕ × Block)) (e : ℕ × Block) → LaidOut at bs → In e bs → IsBlock e.1
laid_whole at [] e h k = absurd k
laid_whole at (d ∷ rest) e h (inl k) = subst (λ (x : ℕ × Block). IsBlock x.1) k h.1
laid_whole at (d ∷ rest) e h (inr k) = laid_whole (at + (d.1.header.len + 2)) rest e h.2 k

laid_objects : (links : ℕ → ℕ) (at : ℕ) (bs : List (ℕ × Block)) (end : ℕ) → LaidOut at bs → at + length (spelled_from links bs) ≡ end → Laid at (map object_entry bs) end
laid_objects links at [] end h e = let x : at + 0 ≡ end = e in omega arith
laid_objects links at (d ∷ rest) end h e =
    let fields = (h.1).fields in
    let place : at + (d.1.header.len + 2) ≡ at + (length (object_of_block d.1).fields + 2) = omega (arith, fields, length-map d.1.fields (field_value d.1.header)) in (
      h.0,
      subst (λ n. Laid n (map object_entry rest) end) place
          (laid_objects links (at + (d.1.header.len + 2)) rest end h.2 (omega (arith, e, fields, length-append (block_words (links d.0) d.1) (spelled_from links rest)))),
    )

-- ---- a space of such words

module _ (space : SpaceWords) (is : IsSpace space) where
  laid : LaidOut 1 (blocks space.words)
  laid = laid_out_words space.words is.walked

  spelling : space.words ≡ spelled (link_at space.words) (blocks space.words)
  spelling = spelled_words space.words is.walked is.end_low is.reserved

  pub objects_laid : Laid 1 (objects_of space.words) (space.size - free_in space)
  objects_laid = grind (arith, common_steps, laid_objects, laid, spelling)

  value_refers : (v : Value) → RefersToStart space.words v → RefersTo (IsNamed (objects_of space.words)) v
  value_refers Nil h = tt
  value_refers (Num n) h = tt
  value_refers (Ref a) h = let b = block_found_in (blocks space.words) a h in (object_of_block b.0, in_map object_entry (a, b.0) (blocks space.words) b.1)

  field_refers : (h : Header) (w : ℕ) → IsFieldWord space.words h w → RefersTo (IsNamed (objects_of space.words)) (field_value h w)
  field_refers h w is = grind (arith, common_steps, value_refers)

  block_object : (e : ℕ × Block) → In e (blocks space.words) → HasFieldWords space.words e.1 → IsObject (objects_of space.words) (object_of_block e.1)
  block_object e k words =
      let whole = laid_whole 1 (blocks space.words) e laid k in record {
        kind = (whole.header).kind;
        len = let l = (whole.header).len in let n = whole.fields in omega (arith, length-map e.1.fields (field_value e.1.header));
        fields = λ v x.
            let w = in_map_from (field_value e.1.header) v e.1.fields x in
            subst (RefersTo (IsNamed (objects_of space.words))) w.2 (field_refers e.1.header w.0 (in_all (IsFieldWord space.words e.1.header) e.1.fields w.0 words w.1));
      }

-- ---- words and values

-- each word is the word of what it means
pub word_back : (w : ℕ) → word_of (value_of w) ≡ w
word_back w = grind (arith, common_steps, eqb-true, eqb-false)

pub words_back : (ws : List ℕ) → map word_of (map value_of ws) ≡ ws
words_back [] = refl
words_back (w ∷ ws) = grind (arith, common_steps, word_back, words_back ws)

field_words_back : (h : Header) (fields : List ℕ) → map (field_word h) (map (field_value h) fields) ≡ fields
field_words_back h [] = refl
field_words_back h (w ∷ ws) = grind (arith, common_steps, word_back, field_words_back h ws)

blocks_back : (bs : List (ℕ × Block)) → ((e : ℕ × Block) → In e bs → IsBlock e.1) → map block_entry (map object_entry bs) ≡ bs
blocks_back [] whole = refl
blocks_back (e ∷ rest) whole = grind (arith, common_steps, length-map, field_words_back, blocks_back rest (λ d k. whole d (inr k)))

pub space_blocks : (space : SpaceWords) → IsSpace space → map block_entry (objects_of space.words) ≡ blocks space.words
space_blocks space is = blocks_back (blocks space.words) (λ e k. laid_whole 1 (blocks space.words) e (laid_out_words space.words is.walked) k)

-- a space's words are those of its objects with their links
pub space_spelled : (space : SpaceWords) → IsSpace space → space.words ≡ spelled (link_at space.words) (map block_entry (objects_of space.words))
space_spelled space is = grind (arith, common_steps, spelled_words, space_blocks)

-- ---- a heap of such words

-- the words of raw objects are numbers
pub words_numbers : (words : List ℕ) → HasRawNumbers (objects_of words)
words_numbers words a o found raw v k = grind (arith, common_steps, object_found, in_map_from)

pub heap_graph : (heap : HeapWords) → IsHeap heap → IsSpaceGraph heap.space.size (free_in heap.space) (graph_in heap)
heap_graph heap is = record {
  high = (is.space).size_high;
  room = let low = (is.space).end_low in let high = (is.space).end_high in omega arith;
  laid = objects_laid heap.space is.space;
  objects = λ a o k.
      let e = in_map_from object_entry (a, o) (blocks heap.space.words) k in
      subst (λ (x : ℕ × Object). IsObject (objects_of heap.space.words) x.1) e.2
      (block_object heap.space is.space e.0 e.1 (in_all (λ (entry : ℕ × Block). HasFieldWords heap.space.words entry.1) (blocks heap.space.words) e.0 (is.closed).fields e.1));
  roots = λ v k.
      let w = in_map_from value_of v heap.roots k in
      subst (RefersTo (IsNamed (objects_of heap.space.words))) w.2 (value_refers heap.space is.space (value_of w.0) (in_all (IsRootWord heap.space.words) heap.roots w.0 (is.closed).roots w.1).start);
  numbers = words_numbers heap.space.words;
}

pub heap_image : (heap : HeapWords) → IsHeap heap → image_of heap ≡ linked_image (link_at heap.space.words) heap.space.size (graph_in heap)
heap_image heap is = grind (arith, common_steps, space_spelled, words_back)
