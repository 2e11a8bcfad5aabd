-- The image of a heap: the walk finds its objects, and its words mean the heap's values.
use Rattle.std.proofs.lemmas.Grind.{common_steps}
use Rattle.std.specs.Result.{result_unwrap_or}
use Rattle.std.proofs.Common.{◌≡◌, inl, inr, ℕ, ◌+◌, ◌-◌, ◌<◌, ◌≤◌, true, List, [], ◌∷◌, map, length, Some, Ok, refl, ap, ◌∙◌, arith}
use Rattle.std.proofs.lemmas.List.{length-map}
use Rattle.gc_graph.specs.Graph.{Value, Num, Object, Graph, lookup, number_of}
use Rattle.gc_graph.specs.Machine.{is_number}
use Rattle.gc_words.specs.Word.{value_of, read_value, word_of, field_value, HasAddress}
use Rattle.gc_words.specs.Image.{walk_words, IsShaped, blocks, block_in, block_at, object_entry, graph_of}
use Rattle.gc_words.specs.Spelling.{spelled_from}
use Rattle.gc_words.proofs.Public.{LaidOut, value_read_back, meaning_back, walk_spelled}
use Rattle.gc_words.specs.declared.header.Header.{Header}
use Rattle.gc_model.specs.Linked.{object_header, field_word, object_block, block_entry, linked_space, linked_image}
use Rattle.gc_model.specs.Members.{In}
use Rattle.gc_model.specs.Belonging.{Laid, IsNamed, RefersTo, IsSpaceGraph}
use Rattle.gc_model.proofs.Heap.{refers_map, laid_range, lookup_laid}

-- ---- words

-- an address that a reference can hold
abbrev pub IsAddress : ℕ → Type 0
IsAddress a = (1 ≤ a) × (a < 4294967295)

has_address : (v : Value) → RefersTo IsAddress v → HasAddress v
has_address v h = grind (arith, common_steps)

value_back : (v : Value) → RefersTo IsAddress v → value_of (word_of v) ≡ v
value_back v h = (meaning_back v (has_address v h)).1

pub read_back : (v : Value) → RefersTo IsAddress v → read_value (word_of v) ≡ Some v
read_back v h = value_read_back v (has_address v h)

-- ---- the walk

pub laid_out : (at : ℕ) (objects : List (ℕ × Object)) (end : ℕ) → Laid at objects end → ((e : ℕ × Object) → In e objects → (e.1.kind < 256) × (length e.1.fields < 65536)) → LaidOut at (map block_entry objects)
laid_out at [] end h ok = tt
laid_out at (e ∷ rest) end h ok = grind (arith, common_steps, length-map, laid_out (at + (length e.1.fields + 2)) rest end h.1)

pub words_laid : (links : ℕ → ℕ) (at : ℕ) (objects : List (ℕ × Object)) (end : ℕ) → Laid at objects end → at + length (spelled_from links (map block_entry objects)) ≡ end
words_laid links at [] end h = let e : at ≡ end = h in omega arith
words_laid links at (e ∷ rest) end h = grind (arith, common_steps, length-map, words_laid links (at + (length e.1.fields + 2)) rest end h.1)

-- ---- the image of a heap

pub end_is : (links : ℕ → ℕ) (size free : ℕ) (g : Graph) → IsSpaceGraph size free g → length (linked_space links size g.objects).words ≡ size - free
end_is links size free g h = let e = words_laid links 1 g.objects (size - free) h.laid in omega (arith, e)

walked : (links : ℕ → ℕ) (size free : ℕ) (g : Graph) → IsSpaceGraph size free g → walk_words (linked_space links size g.objects).words ≡ Ok (map block_entry g.objects)
walked links size free g h = walk_spelled (map block_entry g.objects) links 1 (laid_out 1 g.objects (size - free) h.laid (λ e k. let ok = h.objects e.0 e.1 k in (ok.kind, ok.len)))

pub image_shaped : (links : ℕ → ℕ) (size free : ℕ) (g : Graph) → IsSpaceGraph size free g → IsShaped (linked_image links size g)
image_shaped links size free g h = grind (arith, common_steps, end_is, walked)

blocks_are : (links : ℕ → ℕ) (size free : ℕ) (g : Graph) → IsSpaceGraph size free g → blocks (linked_space links size g.objects).words ≡ map block_entry g.objects
blocks_are links size free g h = ap (λ r. result_unwrap_or r []) (walked links size free g h)

pub block_found : (objects : List (ℕ × Object)) (a : ℕ) (o : Object) → lookup objects a ≡ Some o → block_in (map block_entry objects) a ≡ Some (object_block o)
block_found [] a o h = absurd cc
block_found (e ∷ rest) a o h = grind (arith, common_steps, block_found rest a o)

pub block_is : (links : ℕ → ℕ) (size free : ℕ) (g : Graph) (a : ℕ) (o : Object) → IsSpaceGraph size free g → lookup g.objects a ≡ Some o → block_at (linked_image links size g).words a ≡ Some (object_block o)
block_is links size free g a o h k = ap (λ bs. block_in bs a) (blocks_are links size free g h) ∙ block_found g.objects a o k

pub named_address : (size free : ℕ) (g : Graph) (a : ℕ) → IsSpaceGraph size free g → IsNamed g.objects a → IsAddress a
named_address size free g a h n = grind (arith, common_steps, laid_range)

-- ---- the graph of the image

number_back : (v : Value) → is_number v ≡ true → Num (number_of v) ≡ v
number_back v h = grind (arith, common_steps)

values_back : (h : Header) (P : ℕ → Type 0) (vs : List Value) → ((a : ℕ) → P a → IsAddress a) → ((v : Value) → In v vs → RefersTo P v) → ((v : Value) → In v vs → h.raw ≡ true → is_number v ≡ true) → map (field_value h) (map (field_word h) vs) ≡ vs
values_back h P [] f ok numbers = refl
values_back h P (v ∷ vs) f ok numbers = grind (arith, common_steps, number_back, value_back, refers_map, values_back h P vs f)

roots_back : (P : ℕ → Type 0) (vs : List Value) → ((a : ℕ) → P a → IsAddress a) → ((v : Value) → In v vs → RefersTo P v) → map value_of (map word_of vs) ≡ vs
roots_back P [] f ok = refl
roots_back P (v ∷ vs) f ok = grind (arith, common_steps, value_back v (refers_map P IsAddress f v (ok v (inl refl))), roots_back P vs f (λ w k. ok w (inr k)))

objects_back : (objects : List (ℕ × Object)) → ((e : ℕ × Object) → In e objects → map (field_value (object_header e.1)) (map (field_word (object_header e.1)) e.1.fields) ≡ e.1.fields)
    → map object_entry (map block_entry objects) ≡ objects
objects_back [] ok = refl
objects_back (e ∷ rest) ok = grind (arith, common_steps, objects_back rest)

-- the image has the heap's graph
pub graph_back : (links : ℕ → ℕ) (size free : ℕ) (g : Graph) → IsSpaceGraph size free g → graph_of (linked_image links size g) ≡ g
graph_back links size free g h =
    let address = λ (a : ℕ) (n : IsNamed g.objects a). named_address size free g a h n in
    let b = blocks_are links size free g h in
    let os : map object_entry (blocks (linked_space links size g.objects).words) ≡ g.objects =
    ap (map object_entry) b
    ∙ objects_back g.objects (λ e k. values_back (object_header e.1) (IsNamed g.objects) e.1.fields address (h.objects e.0 e.1 k).fields (λ v l raw. h.numbers e.0 e.1 (lookup_laid 1 g.objects (size - free) e.0 e.1 h.laid k) raw v l)) in
    let rs = roots_back (IsNamed g.objects) g.roots address h.roots in
    λ i. record { objects = os i; roots = rs i }
