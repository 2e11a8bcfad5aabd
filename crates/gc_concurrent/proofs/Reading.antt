-- What a field or a root holds, and what an object's header says, as the machine has it.
use Rattle.std.proofs.lemmas.Grind.{common_steps}
use Rattle.std.proofs.lemmas.List.{drop_more, get_or-drop, get_or-map, get_or-take}
use Rattle.std.proofs.lemmas.Option.{slice_get-get_or}
use Rattle.std.proofs.Common.{◌≡◌, ℕ, zero, suc, ◌+◌, ◌-◌, ◌*◌, ◌^◌, ◌<◌, ◌≤◌, ◌&&◌, List, [], ◌∷◌, ◌++◌, length, map, take, drop, get_or, slice_index, Some, sym, ◌∙◌, ap, subst, arith}
use Rattle.std.specs.Prelude.{slice_get, slice_set}
use Rattle.std.specs.List.{list_all}
use Rattle.std.specs.Option.{option_map, unwrap_or}
use Rattle.gc_graph.specs.Graph.{Nil, Num, Value, field_of, number_of, object_of}
use Rattle.gc_graph.specs.Machine.{is_number}
use Rattle.gc_graph.specs.declared.command.Op.TheVariants.{Get}
use Rattle.gc_graph.specs.declared.reply.Reply.{Reply}
use Rattle.gc_graph.proofs.Public.{in_place, with_free}
use Rattle.gc_words.specs.Word.{field_value, value_of}
use Rattle.gc_words.specs.Image.{field_at, header_at}
use Rattle.gc_words.specs.Space.{end_of}
use Rattle.gc_words.specs.declared.header.Header.{Header}
use Rattle.gc_words.proofs.Public.{field_found, fields_counted}
use Rattle.gc_heap.specs.Heap.{HeapWords, IsHeap, graph_in, roomy_in}
use Rattle.gc_heap.specs.Places.{root_at}
use Rattle.gc_heap.proofs.Public.{Points, header_is}
use Rattle.gc_concurrent.specs.Bulk.{Peeks, object_of_root}
use Rattle.gc_concurrent.specs.Internal.Shapes.{FitsHeader, GetsField}

-- the value in a field of the object
pub value_at : (h : HeapWords) (s a i : ℕ) (p : Points h s a) → field_of (object_of_root h s) i ≡ option_map (field_value p.block.header) (field_at h.space.words a i)
value_at h s a i p = ap (λ v. field_of (object_of (graph_in h).objects v) i) p.target ∙ field_found h.space.words a i p.block p.found

-- the object has the shape that its header says
pub shaped_so : (h : HeapWords) (s a : ℕ) (g : Header) → IsHeap h → Points h s a → header_at h.space.words a ≡ Some g → FitsHeader g (object_of_root h s)
shaped_so h s a g is p read =
    let same = header_is h s a g p read in
    subst (FitsHeader g) (sym p.object) ((λ i. (same i).raw), fields_counted h.space.words a p.block is.space.walked p.found ∙ (λ i. (same i).len))

-- a `Get` of a value into any root tells what a peek tells
pub peeked : (h new : HeapWords) (s i : ℕ) (reply : Reply) → IsHeap new → new.space ≡ h.space → GetsField h s s i reply new → Peeks s i h reply
peeked h new s i reply is same gets =
    let free : (roomy_in new).free ≡ (roomy_in h).free = (λ k. (same k).size - length (same k).words) in (
      new,
      is,
      in_place (roomy_in h) 0 (Get (root_at s) (root_at s) i) (end_of h.space) (λ none. none)
          ∙ ap (with_free (roomy_in h).free) (sym gets) ∙ (λ k. (reply, record { graph = graph_in new; free = sym free k })),
    )

-- the word of a number
pub number_means : (n : ℕ) → n < 2 ^ 63 → value_of (2 * n + 1) ≡ Num n
number_means n less = grind (arith, common_steps)

-- ---- fields in a row

value_there : (vs : List Value) (j : ℕ) → j < length vs → unwrap_or (slice_get vs j) Nil ≡ get_or vs j Nil
value_there vs j less = ap (λ o. unwrap_or o Nil) (slice_get-get_or vs j Nil less)

-- the number in a field is that of the row
pub number_read : (vs : List Value) (first n k : ℕ) → k < n → first + n ≤ length vs → number_of (unwrap_or (slice_get vs (first + k)) Nil) ≡ slice_index (take n (drop first (map number_of vs))) k
number_read vs first n k less long =
    let there : first + k < length vs = omega (arith, less, long) in
    ap number_of (value_there vs (first + k) there) ∙ sym (get_or-map number_of vs (first + k) Nil 0 there) ∙ sym (get_or-drop first (map number_of vs) k 0)
    ∙ sym (get_or-take n (drop first (map number_of vs)) k 0 less)

-- the first of a row is a number, and the others are
pub numbers_next : (vs : List Value) (from count k : ℕ) → k < count → from + count ≤ length vs
    → list_all is_number (take (count - k) (drop (from + k) vs)) ≡ (is_number (unwrap_or (slice_get vs (from + k)) Nil) && list_all is_number (take (count - (k + 1)) (drop (from + (k + 1)) vs)))
numbers_next vs from count k less long =
    let there : from + k < length vs = omega (arith, less, long) in
    let more : count - k ≡ suc (count - (k + 1)) = omega (arith, less) in
    let place : from + k + 1 ≡ from + (k + 1) = omega arith in
    (λ i. list_all is_number (take (more i) (drop_more vs (from + k) Nil there i)))
    ∙ (λ i. is_number (sym (value_there vs (from + k) there) i) && list_all is_number (take (count - (k + 1)) (drop (place i) vs)))

-- a row takes its next number
pub set_next : (row old : List ℕ) (k x : ℕ) → length old ≡ length row → k < length row → x ≡ slice_index row k → slice_set (take k row ++ drop k old) k x ≡ take (suc k) row ++ drop (suc k) old
set_next [] old k x same less is = absurd (omega (arith, less))
set_next (y ∷ row) [] k x same less is = absurd (omega (arith, same))
set_next (y ∷ row) (z ∷ old) zero x same less is = ap (λ w. w ∷ old) is
set_next (y ∷ row) (z ∷ old) (suc k) x same less is = ap (λ l. y ∷ l) (set_next row old k x (omega (arith, same)) (omega (arith, less)) is)
