-- Numbers that the fields of a raw object take at once.
use Rattle.std.proofs.Common.{◌≡◌, ◌<◌, ◌≤◌, ◌+◌, ◌^◌, ℕ, suc, List, [], ◌∷◌, length, Some, cond, refl, sym, ◌∙◌, ap, subst, arith}
use Rattle.std.specs.Prelude.{IsTrue}
use Rattle.std.specs.List.{All}
use Rattle.std.proofs.lemmas.List.{length-map}
use Rattle.std.proofs.lemmas.List.Elements.{All-head, All-tail}
use Rattle.gc_graph.specs.Graph.{Num, Ref, root}
use Rattle.gc_words.specs.Closed.{IsWordOfField}
use Rattle.gc_words.specs.Image.{header_at}
use Rattle.gc_words.specs.Space.{HasFields, SpaceWords, with_fields}
use Rattle.gc_words.specs.Word.{field_value, value_of}
use Rattle.gc_words.specs.declared.header.Header.{Header}
use Rattle.gc_words.proofs.Public.{block_of_header, fields_counted}
use Rattle.gc_heap.specs.Filling.{PutsAll, PutsValue, numbered}
use Rattle.gc_heap.specs.Heap.{HeapWords, IsHeap, graph_in}
use Rattle.gc_heap.proofs.Filling.{writes}

-- the heap with these numbers in the fields from i on of the object at this address
abbrev with_numbers : HeapWords → ℕ → ℕ → List ℕ → HeapWords
with_numbers h a i numbers = record h { space = with_fields h.space a i numbers }

-- the fields took the numbers one by one
pub record HasNumbers (h : HeapWords) (p a i : ℕ) (header : Header) (numbers : List ℕ) (new : HeapWords) : Type 0 where
  pub puts : PutsAll h p (numbered i numbers) new
  pub heap : IsHeap new
  pub kept : header_at new.space.words a ≡ Some header

numbers_put : (numbers : List ℕ) (h : HeapWords) (p a i : ℕ) (header : Header) → IsHeap h → root (graph_in h) p ≡ Ref a → header_at h.space.words a ≡ Some header → IsTrue header.raw → i + length numbers ≤ header.len
    → All (λ n. n < 2 ^ 63) numbers → HasNumbers h p a i header numbers (with_numbers h a i numbers)
numbers_put [] h p a i header heap target met raw room small = record { puts = refl; heap = heap; kept = met }
numbers_put (n ∷ rest) h p a i header heap target met raw room small =
    let next : HeapWords = with_numbers h a i (n ∷ []) in
    let one = writes h p a i n header heap target met (omega (arith, room)) (subst (λ raw. IsWordOfField raw h.space.words n) (sym raw) (All-head (λ n. n < 2 ^ 63) n rest small)) in
    let value : field_value header n ≡ Num n = ap (λ raw. cond raw (Num n) (value_of n)) raw in
    let more = numbers_put rest next p a (suc i) header one.heap target (one.headers a header met) raw (omega (arith, room)) (All-tail (λ n. n < 2 ^ 63) n rest small) in
    record { puts = (next, subst (λ v. PutsValue h p i v next) value one.puts, more.puts); heap = more.heap; kept = more.kept }

-- the fields that take them
pub has_fields : (h : HeapWords) (a first count : ℕ) (header : Header) → IsHeap h → header_at h.space.words a ≡ Some header → first + count ≤ header.len → HasFields h.space a first count
has_fields h a first count header heap met room =
    let found = block_of_header h.space.words a header met in
    let long : length found.0.fields ≡ header.len = sym (length-map found.0.fields (field_value found.0.header)) ∙ fields_counted h.space.words a found.0 heap.space.walked found.1 ∙ ap (λ (h : Header). h.len) found.2 in
    record { block = found.0; found = found.1; long = omega (arith, room, long) }

-- what the call leaves
pub all_put : (h old : HeapWords) (space : SpaceWords) (p a first : ℕ) (header : Header) (numbers : List ℕ) → h ≡ old → IsHeap h → root (graph_in old) p ≡ Ref a → header_at old.space.words a ≡ Some header → IsTrue header.raw
    → first + length numbers ≤ header.len → All (λ n. n < 2 ^ 63) numbers → space ≡ with_fields h.space a first numbers → HasNumbers old p a first header numbers (record h { space = space })
all_put h old space p a first header numbers same heap target met raw room small written =
    subst (λ g. HasNumbers g p a first header numbers (record h { space = space })) same
    (subst (λ (s : SpaceWords). HasNumbers h p a first header numbers (record h { space = s })) (sym written)
    (numbers_put numbers h p a first header heap (subst (λ (g : HeapWords). root (graph_in g) p ≡ Ref a) (sym same) target) (subst (λ (g : HeapWords). header_at g.space.words a ≡ Some header) (sym same) met) raw room small))
