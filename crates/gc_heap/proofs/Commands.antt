-- Commands on a heap of words, as commands on its graph.
use Rattle.std.proofs.lemmas.Grind.{common_steps}
use Rattle.std.proofs.Common.{◌≡◌, ℕ, suc, zero, ◌<◌, Bool, true, false, cond, List, [], ◌∷◌, length, Some, None, is_some, refl, sym, ◌∙◌, ap, subst, inl, inr, arith}
use Rattle.std.specs.Prelude.{not, ◌&&◌, slice_get, slice_index, slice_set, get_or}
use Rattle.std.specs.Option.{option_map}
use Rattle.std.proofs.lemmas.Bool.{eqb-true, eq-eqb, cases_Bool, and_from, and_parts}
use Rattle.gc_graph.specs.Graph.{Value, Ref, Graph, object_of, field_of, root, set_root, set_field, name_of}
use Rattle.gc_graph.specs.Machine.{view_of, same, get_field, is_number, put_field}
use Rattle.gc_graph.specs.declared.reply.Reply.{Reply}
use Rattle.gc_graph.specs.declared.reply.Reply.TheVariants.{Done, NoField, NoNumber, Saw}
use Rattle.gc_graph.specs.declared.reply.View.{View}
use Rattle.gc_words.specs.Word.{value_of, word_of, field_value}
use Rattle.gc_words.specs.Image.{Block, block_at, header_of, header_at, field_at, objects_of, object_of_block}
use Rattle.gc_words.specs.Layout.{field_place}
use Rattle.gc_words.specs.Space.{with_object, with_word, end_of, CanPlace}
use Rattle.gc_words.specs.declared.header.Header.{Header}
use Rattle.gc_words.specs.Closed.{IsRootWord, IsFieldWord}
use Rattle.gc_words.proofs.Public.{object_found, field_found, root_value, graph_field, graph_root, word_read_back, closed_root_read, closed_field, closed_root, closed_placed, placed_reference, some_of, field_written, placed, none_of}
use Rattle.std.proofs.lemmas.List.{length-set}
use Rattle.gc_heap.specs.Heap.{HeapWords, IsHeap, graph_in}

-- ---- roots

pub get_index : (xs : List ℕ) (i : ℕ) → i < length xs → slice_get xs i ≡ Some (slice_index xs i)
get_index [] i h = absurd (omega arith)
get_index (x ∷ xs) zero h = refl
get_index (x ∷ xs) (suc i) h = get_index xs i (omega arith)

-- an index within bounds reads the same for every default
pub read_root : (h : HeapWords) (items : List ℕ) (p w : ℕ) → items ≡ h.roots → p < length h.roots → w ≡ get_or items p w → w ≡ slice_index h.roots p
read_root h items p w same less read = grind (arith, common_steps)

pub root_word : (h : HeapWords) (p : ℕ) → IsHeap h → p < length h.roots → IsRootWord h.space.words (slice_index h.roots p)
root_word h p heap less = closed_root_read h.space.words h.roots p (slice_index h.roots p) heap.closed (get_index h.roots p less)

pub named : (v : Value) (a : ℕ) → Some a ≡ name_of v → v ≡ Ref a
named v a e = grind (arith, common_steps)

-- ---- the object that a root refers to

pub record Points (h : HeapWords) (s a : ℕ) : Type 0 where
  pub block : Block
  pub found : block_at h.space.words a ≡ Some block
  pub target : root (graph_in h) s ≡ Ref a
  pub object : object_of (graph_in h).objects (root (graph_in h) s) ≡ Some (object_of_block block)

-- the object that a root of a heap refers to, if the root is read in a borrow of the heap
pub points : (inside h : HeapWords) (s a w : ℕ) → inside ≡ h → IsHeap inside → s < length h.roots → w ≡ get_or inside.roots s w → Some a ≡ name_of (value_of w) → Points inside s a
points inside h s a w view heap less read name =
    let less : s < length inside.roots = subst (λ (h : HeapWords). s < length h.roots) (sym view) less in
    let read : w ≡ slice_index inside.roots s = read_root inside inside.roots s w refl less read in
    let target : root (graph_in inside) s ≡ Ref a = root_value inside.roots s ∙ ap value_of (sym read) ∙ named (value_of w) a name in
    let b = some_of (block_at inside.space.words a) (grind (arith, common_steps, named, root_word)) in
    record { block = b.0; found = b.1; target = target; object = ap (object_of (graph_in inside).objects) target ∙ object_found inside.space.words a ∙ ap (option_map object_of_block) b.1 }

-- a field of the graph's object
field_value_at : (h : HeapWords) (s a i : ℕ) (p : Points h s a) → field_of (object_of (graph_in h).objects (root (graph_in h) s)) i ≡ option_map (field_value p.block.header) (field_at h.space.words a i)
field_value_at h s a i p = ap (λ v. field_of (object_of (graph_in h).objects v) i) p.target ∙ field_found h.space.words a i p.block p.found

-- ---- get

pub got_no_field : (h : HeapWords) (d s a i : ℕ) → Points h s a → is_some (field_at h.space.words a i) ≡ false
    → let object = object_of (graph_in h).objects (root (graph_in h) s) in ◌≡◌ {A = Reply × Graph} (NoField, graph_in h) (get_field (graph_in h) d object (field_of object i))
got_no_field h d s a i p none =
    sym (ap (λ f. get_field (graph_in h) d (object_of (graph_in h).objects (root (graph_in h) s)) f) (field_value_at h s a i p ∙ ap (option_map (field_value p.block.header)) (none_of (field_at h.space.words a i) none))
    ∙ ap (λ o. get_field (graph_in h) d o None) p.object)

pub got : (h : HeapWords) (d s a i f w : ℕ) (view : View) (p : Points h s a) → field_at h.space.words a i ≡ Some f → value_of w ≡ field_value p.block.header f → view ≡ view_of (graph_in h).objects (value_of w)
    → let object = object_of (graph_in h).objects (root (graph_in h) s) in
    ◌≡◌ {A = Reply × Graph} (Saw view, graph_in (record h { roots = slice_set h.roots d w })) (get_field (graph_in h) d object (field_of object i))
got h d s a i f w view p read means seen =
    let there : get_field (graph_in h) d (object_of (graph_in h).objects (root (graph_in h) s)) (field_of (object_of (graph_in h).objects (root (graph_in h) s)) i) ≡ (Saw (view_of (graph_in h).objects (value_of w)), set_root (graph_in h) d (value_of w))
    = ap (λ f. get_field (graph_in h) d (object_of (graph_in h).objects (root (graph_in h) s)) f) (field_value_at h s a i p ∙ ap (option_map (field_value p.block.header)) read ∙ ap (λ v. Some v) (sym means))
    ∙ ap (λ o. get_field (graph_in h) d o (Some (value_of w))) p.object in
    (λ k. (Saw (seen k), graph_root h.space d w h.roots k)) ∙ sym there

-- ---- the header of that object

pub header_is : (h : HeapWords) (s a : ℕ) (g : Header) (p : Points h s a) → header_at h.space.words a ≡ Some g → p.block.header ≡ g
header_is h s a g p read = (let both : Some p.block.header ≡ Some g = sym (ap header_of p.found) ∙ read in cc)

-- ---- put

pub put_no_field : (h : HeapWords) (s a i : ℕ) (v : Value) → Points h s a → is_some (field_at h.space.words a i) ≡ false
    → let object = object_of (graph_in h).objects (root (graph_in h) s) in ◌≡◌ {A = Reply × Graph} (NoField, graph_in h) (put_field (graph_in h) (root (graph_in h) s) object (field_of object i) i v)
put_no_field h s a i v p none =
    sym (ap (λ f. put_field (graph_in h) (root (graph_in h) s) (object_of (graph_in h).objects (root (graph_in h) s)) f i v) (field_value_at h s a i p ∙ ap (option_map (field_value p.block.header)) (none_of (field_at h.space.words a i) none))
    ∙ ap (λ o. put_field (graph_in h) (root (graph_in h) s) o None i v) p.object
    ∙ ap (λ r. put_field (graph_in h) r (Some (object_of_block p.block)) None i v) p.target)

-- an object takes the value into one of its fields, unless it is raw and the value is not a number
abbrev pub written : HeapWords → ℕ → ℕ → Bool → Value → Reply × Graph
written h a i refused v = cond refused (NoNumber, graph_in h) (Done, record (graph_in h) { objects = set_field (objects_of h.space.words) a i v })

put_there : (h : HeapWords) (s a i : ℕ) (v : Value) (p : Points h s a) → is_some (field_at h.space.words a i) ≡ true
    → let object = object_of (graph_in h).objects (root (graph_in h) s) in
    put_field (graph_in h) (root (graph_in h) s) object (field_of object i) i v ≡ written h a i (p.block.header.raw && not (is_number v)) v
put_there h s a i v p some =
    let before : (x : ℕ) × (field_at h.space.words a i ≡ Some x) = some_of (field_at h.space.words a i) some in
    ap (λ f. put_field (graph_in h) (root (graph_in h) s) (object_of (graph_in h).objects (root (graph_in h) s)) f i v) (field_value_at h s a i p ∙ ap (option_map (field_value p.block.header)) before.1)
    ∙ ap (λ o. put_field (graph_in h) (root (graph_in h) s) o (Some (field_value p.block.header before.0)) i v) p.object
    ∙ ap (λ r. put_field (graph_in h) r (Some (object_of_block p.block)) (Some (field_value p.block.header before.0)) i v) p.target

pub put_refused : (h : HeapWords) (s a i : ℕ) (v : Value) (p : Points h s a) → is_some (field_at h.space.words a i) ≡ true → (p.block.header.raw && not (is_number v)) ≡ true
    → let object = object_of (graph_in h).objects (root (graph_in h) s) in ◌≡◌ {A = Reply × Graph} (NoNumber, graph_in h) (put_field (graph_in h) (root (graph_in h) s) object (field_of object i) i v)
put_refused h s a i v p some none = sym (put_there h s a i v p some ∙ ap (λ b. written h a i b v) none)

pub put_done : (h : HeapWords) (s a i w : ℕ) (v : Value) (p : Points h s a) → IsHeap h → is_some (field_at h.space.words a i) ≡ true → (p.block.header.raw && not (is_number v)) ≡ false → v ≡ field_value p.block.header w
    → let object = object_of (graph_in h).objects (root (graph_in h) s) in
    ◌≡◌ {A = Reply × Graph} (Done, graph_in (record h { space = with_word h.space (field_place a i) w })) (put_field (graph_in h) (root (graph_in h) s) object (field_of object i) i v)
put_done h s a i w v p heap some taken value =
    (λ k. (Done, (graph_field h.space a i w p.block h.roots heap.space some p.found ∙ ap (λ x. record (graph_in h) { objects = set_field (objects_of h.space.words) a i x }) (sym value)) k))
    ∙ sym (put_there h s a i v p some ∙ ap (λ b. written h a i b v) taken)

-- ---- the heap stays well formed

pub taken_heap : (h : HeapWords) (p w : ℕ) → IsHeap h → IsRootWord h.space.words w → IsHeap (record h { roots = slice_set h.roots p w })
taken_heap h p w heap is = record { space = heap.space; closed = closed_root h.space.words h.roots p w is heap.closed; roots = omega (arith, length-set h.roots p w, heap.roots); few = omega (arith, length-set h.roots p w, heap.few) }

pub written_heap : (h : HeapWords) (a i w : ℕ) (b : Block) → IsHeap h → block_at h.space.words a ≡ Some b → is_some (field_at h.space.words a i) ≡ true → IsFieldWord h.space.words b.header w → IsHeap (record h { space = with_word h.space (field_place a i) w })
written_heap h a i w b heap found some is = record {
  space = (field_written h.space a i w heap.space some).0;
  closed = closed_field h.space a i w b h.roots heap.space some found is heap.closed;
  roots = heap.roots;
  few = heap.few;
}

-- ---- tests

pub not_there : (t b : Bool) → (t ≡ true → b ≡ true) × (b ≡ true → t ≡ true) → t ≡ false → b ≡ false
not_there t b both e = elim (cases_Bool b) [ inl yes' ↦ absurd (let no : true ≡ false = sym (both.1 yes') ∙ e in cc) | inr other ↦ other ]

-- ---- same

spelled_back : (words : List ℕ) (w : ℕ) → IsRootWord words w → word_of (value_of w) ≡ w
spelled_back words w is = (word_read_back w (value_of w) (ap (λ b. cond b (Some (value_of w)) None) is.value)).0

-- two values are the same if their words are
pub same_words : (h : HeapWords) (v w : ℕ) → IsRootWord h.space.words v → IsRootWord h.space.words w → v ≡ w → same (graph_in h).objects (value_of v) (value_of w) ≡ true
same_words h v w one other e = grind (arith, common_steps, eq-eqb, some_of, and_from, object_found)

pub other_words : (h : HeapWords) (v w : ℕ) → IsRootWord h.space.words v → IsRootWord h.space.words w → (v ≡ w → ⊥) → same (graph_in h).objects (value_of v) (value_of w) ≡ false
other_words h v w one other differ = grind (arith, common_steps, cases_Bool, spelled_back, eqb-true, and_parts)

pub at_root : (h : HeapWords) (p w : ℕ) → w ≡ slice_index h.roots p → root (graph_in h) p ≡ value_of w
at_root h p w read = root_value h.roots p ∙ ap value_of (sym read)

-- ---- a new object

pub made_heap : (h : HeapWords) (p : ℕ) (header : Header) → IsHeap h → CanPlace h.space header
    → IsHeap (record h { space = with_object h.space header; roots = slice_set h.roots p (word_of (Ref (end_of h.space))) })
made_heap h p header heap can = record {
  space = (placed h.space header can).0;
  closed = closed_root (with_object h.space header).words h.roots p (word_of (Ref (end_of h.space))) (placed_reference h.space header can) (closed_placed h.space header can h.roots heap.closed);
  roots = omega (arith, length-set h.roots p (word_of (Ref (end_of h.space))), heap.roots);
  few = omega (arith, length-set h.roots p (word_of (Ref (end_of h.space))), heap.few);
}
