-- The object that a slot refers to, and the reply to a call that copies fields.
use Rattle.std.proofs.lemmas.Grind.{common_steps}
use Rattle.std.proofs.Common.{◌≡◌, ◌≤◌, ◌+◌, ℕ, List, [], ◌∷◌, length, map, take, drop, Some, None, Option, is_none, is_some, true, false, refl, sym, ap, ◌∙◌, subst, arith}
use Rattle.std.specs.Prelude.{slice_range, not, ◌||◌, Bool, cond, ◌&&◌}
use Rattle.std.specs.List.{list_all}
use Rattle.std.proofs.lemmas.Bool.{le-leb}
use Rattle.std.proofs.lemmas.List.{take-map, drop-map, length-map}
use Rattle.std.proofs.lemmas.List.Folds.{list_all-map}
use Rattle.std.proofs.lemmas.Slice.{between_is}
use Rattle.std.specs.Option.{option_map, option_and_then, unwrap_or}
use Rattle.gc_graph.specs.Graph.{Nil, Num, Ref, Object, Graph, field_of, lookup, object_of, root, name_of}
use Rattle.gc_graph.specs.declared.reply.Reply.{Reply}
use Rattle.gc_graph.specs.declared.reply.Reply.TheVariants.{Done, NoNumber}
use Rattle.gc_graph.specs.Machine.{is_number}
use Rattle.gc_graph.specs.Slots.{SlotName, place}
use Rattle.gc_words.specs.declared.header.Header.{Header}
use Rattle.gc_words.specs.Word.{value_of, field_value}
use Rattle.gc_words.specs.Closed.{IsFieldWord}
use Rattle.gc_words.specs.Image.{Block, block_at, field_at, header_at, header_of, object_of_block}
use Rattle.gc_words.proofs.Public.{block_of_header, closed_field_read, field_found, fields_counted, object_found}
use Rattle.gc_heap.specs.Heap.{HeapWords, IsHeap, graph_in}
use Rattle.gc_collected.specs.Copying.{object_in, copy_reply, value_in}

-- ---- the object that a slot refers to

-- an object with this header and these field words
abbrev pub object_with : Header → List ℕ → Object
object_with header fields = object_of_block (record { header = header; fields = fields })

pub object_there : (h : HeapWords) (m a : ℕ) (slot : SlotName) (header : Header) (fields : List ℕ) → Some a ≡ name_of (root (graph_in h) (place slot m)) → header_at h.space.words a ≡ Some header
    → ((b : Block) → block_at h.space.words a ≡ Some b → fields ≡ b.fields) → Some (object_with header fields) ≡ object_in (graph_in h) slot m
object_there h m a slot header fields name met are =
    let found : object_in (graph_in h) slot m ≡ option_map object_of_block (block_at h.space.words a) = ap (option_and_then (lookup (graph_in h).objects)) (sym name) ∙ object_found h.space.words a in
    grind (arith, common_steps, found)

-- it has as many field words as its header says
pub fields_there : (h : HeapWords) (a : ℕ) (header : Header) (fields : List ℕ) → IsHeap h → header_at h.space.words a ≡ Some header → ((b : Block) → block_at h.space.words a ≡ Some b → fields ≡ b.fields) → length fields ≡ header.len
fields_there h a header fields heap met are = go (block_at h.space.words a) refl
  where
    go : (o : Option Block) → block_at h.space.words a ≡ o → length fields ≡ header.len
    go None is = absurd (let no : None ≡ Some header = sym (ap header_of is) ∙ met in cc)
    go (Some b) is =
        let same : b.header ≡ header = (let both : Some b.header ≡ Some header = sym (ap header_of is) ∙ met in cc) in
        ap length (are b is) ∙ sym (length-map b.fields (field_value b.header)) ∙ fields_counted h.space.words a b heap.space.walked is ∙ ap (λ (h : Header). h.len) same

-- what a field word says is the value of the field
pub value_read : (h : HeapWords) (q a j f : ℕ) (k : Header) → root (graph_in h) q ≡ Ref a → header_at h.space.words a ≡ Some k → field_at h.space.words a j ≡ Some f → value_in (graph_in h) q j ≡ field_value k f
value_read h q a j f k target met read =
    let block = block_of_header h.space.words a k met in
    ap (λ v. unwrap_or (field_of (object_of (graph_in h).objects v) j) Nil) target
    ∙ (ap (λ o. unwrap_or o Nil) (field_found h.space.words a j block.0 block.1 ∙ ap (option_map (field_value block.0.header)) read)
    ∙ ap (λ x. field_value x f) block.2)

-- and it is a word of the object
pub word_read : (h : HeapWords) (a j f : ℕ) (k : Header) → IsHeap h → header_at h.space.words a ≡ Some k → field_at h.space.words a j ≡ Some f → IsFieldWord h.space.words k f
word_read h a j f k heap met read =
    let block = block_of_header h.space.words a k met in
    subst (λ x. IsFieldWord h.space.words x f) block.2 (closed_field_read h.space.words h.roots a j f block.0 heap.closed block.1 read)

-- an object of numbers takes a number
pub word_taken : (o : Option ℕ) (raw number : Bool) → is_none o ≡ (raw && not number) → (raw ≡ true → number ≡ true) → is_some o ≡ true
word_taken (Some w) raw number refused takes = refl
word_taken None true true refused takes = absurd (let bad : true ≡ false = refused in cc)
word_taken None true false refused takes = absurd (let bad : false ≡ true = takes refl in cc)
word_taken None false number refused takes = absurd (let bad : true ≡ false = refused in cc)

-- ---- the reply

-- a part of the values
range_of_map : {X Y : Type 0} (f : X → Y) (xs : List X) (i j : ℕ) → slice_range (map f xs) i j ≡ map f (slice_range xs i j)
range_of_map f xs i j = between_is (map f xs) i j ∙ ap (drop i) (take-map f j xs) ∙ drop-map f i (take j xs) ∙ ap (map f) (sym (between_is xs i j))

-- a raw object holds numbers
raw_numbers_all : (header : Header) (words : List ℕ) → header.raw ≡ true → list_all (λ w. is_number (field_value header w)) words ≡ true
raw_numbers_all header [] raw = refl
raw_numbers_all header (w ∷ rest) raw = ap (λ b. is_number (cond b (Num w) (value_of w)) && list_all (λ w. is_number (field_value header w)) rest) raw ∙ raw_numbers_all header rest raw

pub raw_taken : (target source : Header) (words : List ℕ) → source.raw ≡ true → true ≡ (not target.raw || list_all (λ w. is_number (field_value source w)) words)
raw_taken target source words raw = grind (arith, common_steps, raw_numbers_all)

-- with enough fields in both, the reply says whether the values are taken
pub fitting_reply : (to from count first last : ℕ) (target source : Header) (old words : List ℕ) (g : Graph) (m : ℕ) (d s : SlotName) (taken : Bool) (reply : Reply)
    → Some (object_with target old) ≡ object_in g d m → Some (object_with source words) ≡ object_in g s m → to + count ≤ length old → first ≡ from → last ≡ from + count → last ≤ length words
    → taken ≡ (not target.raw || list_all (λ w. is_number (field_value source w)) (slice_range words first last)) → reply ≡ cond taken Done NoNumber → reply ≡ copy_reply to from count (object_in g d m) (object_in g s m)
fitting_reply to from count first last target source old words g m d s taken reply one other low begin at high asks same = grind (arith, common_steps, list_all-map, range_of_map, le-leb, length-map)
