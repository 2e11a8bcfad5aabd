-- Texts of bytes where they lie in the heap.
use Rattle.std.proofs.Common.{◌≡◌, ℕ, true, false, List, [], ◌∷◌, length, map, Option, Some, None, is_some, refl, ap, sym, ◌∙◌, arith}
use Rattle.std.specs.Prelude.{Bool, IsTrue, if◌then◌else◌}
use Rattle.std.specs.Bool.{then_some}
use Rattle.std.specs.Option.{option_and_then, option_map}
use Rattle.gc_bytes.specs.Text.{text_of}
use Rattle.gc_graph.specs.Graph.{Graph, Num, Object, Ref, lookup, number_of, object_of, root}
use Rattle.gc_words.specs.Image.{Block, block_at, is_start, object_of_block, objects_of}
use Rattle.gc_words.specs.Word.{field_value, value_of}
use Rattle.gc_words.specs.declared.header.Header.{Header}
use Rattle.gc_words.proofs.Public.{object_found}
use Rattle.gc_model.specs.Belonging.{IsSpaceGraph, Laid}
use Rattle.gc_model.specs.State.{State, heap_end}
use Rattle.gc_model.proofs.Public.{laid_range, lookup_in}
use Rattle.gc_collected.specs.Bytes.{text_of_object}
use Rattle.gc_heap.specs.Places.{root_at}
use Rattle.gc_collected.specs.Copying.{object_in}
use Rattle.gc_collected.proofs.Referred.{start_named}

-- the words of a raw object are its numbers
pub same_numbers : (words : List ℕ) (h : Header) → h.raw ≡ true → map number_of (map (field_value h) words) ≡ words
same_numbers [] h raw = refl
same_numbers (w ∷ rest) h raw = ap (λ (b : Bool). number_of (if b then Num w else value_of w) ∷ map number_of (map (field_value h) rest)) raw ∙ ap (λ ws. w ∷ ws) (same_numbers rest h raw)

-- an object with a text is there
there : (o : Option Object) (n : ℕ) → option_map length (text_of_object o) ≡ Some n → is_some o ≡ true
there None n is = absurd (let no : None ≡ Some n = is in cc)
there (Some o) n is = refl

pub text_starts : (words : List ℕ) (a n : ℕ) → option_map length (text_of_object (lookup (objects_of words) a)) ≡ Some n → IsTrue (is_start words a)
text_starts words a n is = sym (start_named words a) ∙ there (lookup (objects_of words) a) n is

-- its field words are the words of the text
pub text_words : (words fields : List ℕ) (a n : ℕ) → option_map length (text_of_object (lookup (objects_of words) a)) ≡ Some n → ((b : Block) → block_at words a ≡ Some b → fields ≡ b.fields) → text_of_object (lookup (objects_of words) a) ≡ text_of fields
text_words words fields a n is are = ap text_of_object (object_found words a) ∙ go (block_at words a) refl
  where
    said : (o : Option Block) → block_at words a ≡ o → option_map length (text_of_object (option_map object_of_block o)) ≡ Some n
    said o at = ap (λ (o : Option Block). option_map length (text_of_object (option_map object_of_block o))) (sym at) ∙ ap (λ o. option_map length (text_of_object o)) (sym (object_found words a)) ∙ is

    of_block : (b : Block) (raw : Bool) → b.header.raw ≡ raw → block_at words a ≡ Some b → text_of_object (Some (object_of_block b)) ≡ text_of fields
    of_block b true raw at =
        ap (λ r. option_and_then text_of (then_some r (map number_of (map (field_value b.header) b.fields)))) raw
        ∙ ap text_of (same_numbers b.fields b.header raw ∙ sym (are b at))
    of_block b false raw at =
        absurd (let no : None ≡ Some n = sym (ap (λ r. option_map length (option_and_then text_of (then_some r (map number_of (map (field_value b.header) b.fields))))) raw) ∙ said (Some b) at in cc)

    go : (o : Option Block) → block_at words a ≡ o → text_of_object (option_map object_of_block o) ≡ text_of fields
    go None at = absurd (let no : None ≡ Some n = said None at in cc)
    go (Some b) at = of_block b b.header.raw refl at

-- ---- where it lies

found_in : (o : Option Object) (text : List ℕ) → text_of_object o ≡ Some text → (object : Object) × (o ≡ Some object)
found_in None text is = absurd (let no : None ≡ Some text = is in cc)
found_in (Some object) text is = (object, refl)

-- below the end
pub text_below : (s : State) (a : ℕ) (text : List ℕ) → IsSpaceGraph s.size s.heap.free s.heap.graph → text_of_object (lookup s.heap.graph.objects a) ≡ Some text → a ≡ heap_end s → ⊥
text_below s a text sound is at =
    let o = found_in (lookup s.heap.graph.objects a) text is in
    let range = laid_range 1 s.heap.graph.objects (heap_end s) (a, o.0) sound.laid (lookup_in s.heap.graph.objects a o.0 o.1) in
    omega (arith, range.1, at)

-- and above 0
pub object_above : (g : Graph) (p a end : ℕ) (o : Object) → Laid 1 g.objects end → root g p ≡ Ref a → Some o ≡ object_in g (root_at p) 0 → 0 ≡ a → ⊥
object_above g p a end o laid target is at =
    let there : lookup g.objects a ≡ Some o = ap (object_of g.objects) (sym target) ∙ sym is in
    let range = laid_range 1 g.objects end (a, o) laid (lookup_in g.objects a o there) in
    omega (arith, range.0, at)
