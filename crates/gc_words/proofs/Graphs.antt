-- The graph of a space's words, and what writes do to it.
use Rattle.std.proofs.lemmas.Grind.{common_steps}
use Rattle.std.proofs.Common.{◌≡◌, ℕ, suc, zero, Bool, true, cond, List, [], ◌∷◌, map, replicate, Some, refl, ap, arith}
use Rattle.std.specs.Prelude.{slice_get, slice_index, slice_set, IsSome}
use Rattle.std.specs.Option.{option_map, unwrap_or}
use Rattle.std.proofs.lemmas.Bool.{eqb-true, eqb-false, eq-eqb, ne_eqb, ltb-true, lt-ltb, cases_Bool, or_cases}
use Rattle.std.proofs.lemmas.List.{map-append, map-set}
use Rattle.gc_graph.specs.Graph.{Value, Nil, Num, Object, Graph, lookup, first_value, new_object, add_object, set_field, set_root, field_of}
use Rattle.gc_words.specs.Word.{value_of, is_value, read_value, word_of, HasAddress, field_value}
use Rattle.gc_words.specs.Image.{Block, fresh_block, blocks, block_in, block_at, field_at, is_start, object_of_block, object_entry, objects_of, graph_of}
use Rattle.gc_words.specs.Layout.{field_place, link_place}
use Rattle.gc_words.specs.Space.{SpaceWords, IsSpace, empty_space, end_of, CanPlace, with_object, with_word, image_with}
use Rattle.gc_words.specs.declared.header.Header.{Header}
use Rattle.gc_words.proofs.Walks.{objects_set}
use Rattle.gc_words.proofs.Writes.{placed, field_written, link_written}

-- ---- words are read back

pub value_read_back : (v : Value) → HasAddress v → read_value (word_of v) ≡ Some v
value_read_back v h = grind (arith, common_steps, eq-eqb, ne_eqb, lt-ltb)

pub meaning_back : (v : Value) → HasAddress v → (is_value (word_of v) ≡ true) × (value_of (word_of v) ≡ v)
meaning_back v has = grind (arith, common_steps, value_read_back)

-- a word that is a value is the word of what it means
abbrev pub IsWordOf : ℕ → Value → Type 0
IsWordOf w v = (word_of v ≡ w) × HasAddress v

pub meant : (w : ℕ) → is_value w ≡ true → IsWordOf w (value_of w)
meant w is = grind (arith, common_steps, cases_Bool, eqb-true, eqb-false, or_cases, ltb-true)

pub word_read_back : (w : ℕ) (v : Value) → read_value w ≡ Some v → IsWordOf w v
word_read_back w v e = grind (arith, common_steps, meant)

-- ---- what a graph finds

object_in : (bs : List (ℕ × Block)) (a : ℕ) → lookup (map object_entry bs) a ≡ option_map object_of_block (block_in bs a)
object_in [] a = refl
object_in (entry ∷ bs) a = grind (arith, common_steps, object_in bs a)

pub object_found : (words : List ℕ) (a : ℕ) → lookup (objects_of words) a ≡ option_map object_of_block (block_at words a)
object_found words a = object_in (blocks words) a

field_of_block : (h : Header) (words : List ℕ) (i : ℕ) → slice_get (map (field_value h) words) i ≡ option_map (field_value h) (slice_get words i)
field_of_block h [] i = refl
field_of_block h (w ∷ words) zero = refl
field_of_block h (w ∷ words) (suc i) = field_of_block h words i

pub field_found : (words : List ℕ) (a i : ℕ) (b : Block) → block_at words a ≡ Some b → field_of (lookup (objects_of words) a) i ≡ option_map (field_value b.header) (field_at words a i)
field_found words a i b e = grind (arith, common_steps, object_found, field_of_block)

pub root_value : (roots : List ℕ) (place : ℕ) → unwrap_or (slice_get (map value_of roots) place) Nil ≡ value_of (slice_index roots place)
root_value [] place = refl
root_value (w ∷ roots) zero = refl
root_value (w ∷ roots) (suc place) = root_value roots place

roots_empty : (count : ℕ) → map value_of (replicate count 0) ≡ replicate count Nil
roots_empty zero = refl
roots_empty (suc count) = ap (λ vs. Nil ∷ vs) (roots_empty count)

pub graph_empty : (size count : ℕ) → graph_of (image_with (empty_space size) (replicate count 0)) ≡ record { objects = []; roots = replicate count Nil }
graph_empty size count = ap (λ vs. record { objects = []; roots = vs }) (roots_empty count)

-- ---- writes

pub fresh_object : (h : Header) → object_of_block (fresh_block h) ≡ new_object h.raw h.kind h.len
fresh_object h = ap (λ fs. record { raw = h.raw; kind = h.kind; fields = fs }) (each h.len)
  where
    zero_word : (raw : Bool) → cond raw (Num 0) (value_of 0) ≡ first_value raw
    zero_word raw = grind (arith, common_steps)

    each : (n : ℕ) → map (field_value h) (replicate n 0) ≡ replicate n (first_value h.raw)
    each zero = refl
    each (suc n) = λ i. zero_word h.raw i ∷ each n i

graph_with : (roots : List ℕ) (os qs : List (ℕ × Object)) → os ≡ qs → ◌≡◌ {A = Graph} (record { objects = os; roots = map value_of roots }) (record { objects = qs; roots = map value_of roots })
graph_with roots os qs e = ap (λ os. record { objects = os; roots = map value_of roots }) e

pub graph_placed : (s : SpaceWords) (h : Header) (roots : List ℕ) → CanPlace s h
    → graph_of (image_with (with_object s h) roots) ≡ add_object (graph_of (image_with s roots)) (end_of s) (new_object h.raw h.kind h.len)
graph_placed s h roots can = grind (arith, common_steps, graph_with, placed, map-append, fresh_object)

pub graph_field : (s : SpaceWords) (a i w : ℕ) (b : Block) (roots : List ℕ) → IsSpace s → IsSome (field_at s.words a i) → block_at s.words a ≡ Some b
    → graph_of (image_with (with_word s (field_place a i) w) roots) ≡ record (graph_of (image_with s roots)) { objects = set_field (objects_of s.words) a i (field_value b.header w) }
graph_field s a i w b roots space some found = grind (arith, common_steps, graph_with, field_written, objects_set)

pub graph_link : (s : SpaceWords) (a w : ℕ) (roots : List ℕ) → IsSpace s → is_start s.words a ≡ true → graph_of (image_with (with_word s (link_place a) w) roots) ≡ graph_of (image_with s roots)
graph_link s a w roots space start = graph_with roots _ _ (ap (map object_entry) (link_written s a w space start).1)

pub graph_root : (s : SpaceWords) (place w : ℕ) (roots : List ℕ) → graph_of (image_with s (slice_set roots place w)) ≡ set_root (graph_of (image_with s roots)) place (value_of w)
graph_root s place w roots = ap (λ vs. record { objects = objects_of s.words; roots = vs }) (map-set value_of roots place w)
