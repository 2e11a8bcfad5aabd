-- Walks over the root words find the first root without a replica, and write the moved roots.
use Rattle.std.proofs.lemmas.Option.{slice_get-map, slice_get-get_or}
use Rattle.std.proofs.lemmas.Grind.{common_steps}
use Rattle.std.proofs.Common.{Option, Some, None, arith, ◌≡◌, ℕ, suc, zero, ◌-◌, ◌<◌, ◌≤◌, true, List, [], ◌∷◌, ◌++◌, map, drop, take, replicate, length, length-take, get_or, slice_get, refl, ap, sym, ◌∙◌, subst, append-nil}
use Rattle.std.proofs.lemmas.Bool.{eqb-true}
use Rattle.std.proofs.lemmas.List.{drop_all, length-map, map-append, take-append-drop}
use Rattle.std.specs.Prelude.{IfSome}
use Rattle.std.specs.Option.{option_map, unwrap_or}
use Rattle.gc_graph.specs.Graph.{Value, Nil, Graph, root}
use Rattle.gc_words.specs.Word.{value_of, word_of}
use Rattle.gc_heap.specs.Heap.{HeapWords, graph_in}
use Rattle.gc_model.specs.State.{Collection, moved}
use Rattle.gc_model.specs.Steps.{root_target, roots_done}
use Rattle.gc_model.specs.Members.{In}
use Rattle.gc_model.proofs.Public.{HasReplica, in_map, roots_replicated, all_replicated, first_missing, get_in}
use Rattle.gc_copy.specs.Words.{AreMoved, new_root_words}
use Rattle.gc_copy.specs.declared.collection.roots.MissingRoot.{MissingRoot}
use Rattle.gc_model.specs.Staying.{HasReplicaOf, IsMissing}

-- the value of a root, read from its word
pub value_at : (words : List ℕ) (i : ℕ) → i < length words → unwrap_or (slice_get (map value_of words) i) Nil ≡ value_of (get_or words i 0)
value_at words i h = grind (arith, common_steps, slice_get-map, slice_get-get_or)

-- ---- moving them

abbrev pub moved_to : Collection → ℕ → ℕ
moved_to c w = word_of (moved c (value_of w))

pub all_moved : (heap : HeapWords) (c : Collection) → map (moved_to c) heap.roots ≡ new_root_words heap c
all_moved heap c = by heap.roots
  where
    by : (ws : List ℕ) → map (moved_to c) ws ≡ map word_of (map (moved c) (map value_of ws))
    by [] = refl
    by (w ∷ ws) = let rest = by ws in λ i. moved_to c w ∷ rest i

get_or_in : (ws : List ℕ) (i : ℕ) → i < length ws → In (get_or ws i 0) ws
get_or_in ws i h = get_in (get_or ws i 0) ws i (slice_get-get_or ws i 0 h)

has_one : (c : Collection) (v : Value) → HasReplica c v → HasReplicaOf c v
has_one c v h = grind (arith, common_steps)

-- once the roots are done, every target of a root has a replica
pub root_has_replica : (heap : HeapWords) (c : Collection) (words : List ℕ) (i : ℕ) → words ≡ heap.roots → i < length words → roots_done c (graph_in heap) ≡ true → HasReplicaOf c (value_of (get_or words i 0))
root_has_replica heap c words i same h done =
    has_one c (value_of (get_or words i 0))
    (roots_replicated c (graph_in heap) done (value_of (get_or words i 0)) (subst (λ ws. In (value_of (get_or words i 0)) (map value_of ws)) same (in_map value_of (get_or words i 0) words (get_or_in words i h))))

-- the values of the roots behind place k are nil
abbrev pub EndsAt : List ℕ → ℕ → Type 0
EndsAt words k = (p : ℕ) → k ≤ p → unwrap_or (slice_get (map value_of words) p) Nil ≡ Nil

-- only 0 is nil
nil_word : (w : ℕ) → value_of w ≡ Nil → w ≡ 0
nil_word w = grind (arith, common_steps, eqb-true)

nil_words : (words : List ℕ) (k : ℕ) → EndsAt words k → drop k words ≡ replicate (length words - k) 0
nil_words [] k h = drop_all k [] (omega arith) ∙ ap (λ n. replicate n 0) (let none : 0 ≡ 0 - k = omega arith in none)
nil_words (w ∷ ws) zero h =
    let rest : drop zero ws ≡ replicate (length ws - zero) 0 = nil_words ws zero (λ p l. h (suc p) (omega arith)) in
    let here : w ≡ 0 = nil_word w (h zero (omega arith)) in
    let same : length ws - zero ≡ length ws = omega arith in
    let more : suc (length ws) ≡ suc (length ws) - zero = omega arith in
    (λ i. here i ∷ (rest ∙ ap (λ n. replicate n 0) same) i) ∙ ap (λ n. replicate n 0) more
nil_words (w ∷ ws) (suc k) h =
    nil_words ws k (λ p l. h (suc p) (omega arith))
    ∙ ap (λ n. replicate n 0) (let less : length ws - k ≡ suc (length ws) - suc k = omega arith in less)

moved_nils : (c : Collection) (n : ℕ) → map (moved_to c) (replicate n 0) ≡ replicate n 0
moved_nils c zero = refl
moved_nils c (suc n) = let rest = moved_nils c n in λ i. 0 ∷ rest i

-- where k roots are moved, and the others are nil
pub moved_first : (heap : HeapWords) (c : Collection) (words row : List ℕ) (k i : ℕ) → k ≤ length heap.roots → EndsAt heap.roots k → words ≡ take k heap.roots → length words ≤ i
    → row ++ map (moved_to c) (drop i words) ≡ map (moved_to c) words → (length row ≡ k) × AreMoved row heap c
moved_first heap c words row k i within ends same past e =
    (count, record { moved = subst (λ n. row ++ replicate (length heap.roots - n) 0 ≡ new_root_words heap c) (sym count) moved; nils = subst (λ n. drop n heap.roots ≡ replicate (length heap.roots - n) 0) (sym count) nils })
  where
    nils : drop k heap.roots ≡ replicate (length heap.roots - k) 0
    nils = nil_words heap.roots k ends

    row_is : row ≡ map (moved_to c) (take k heap.roots)
    row_is = sym (append-nil row) ∙ ap (λ ws. row ++ map (moved_to c) ws) (sym (drop_all i words past)) ∙ e ∙ ap (map (moved_to c)) same

    count : length row ≡ k
    count = ap length row_is ∙ length-map (take k heap.roots) (moved_to c) ∙ (let taken = length-take k heap.roots in omega arith)

    moved : row ++ replicate (length heap.roots - k) 0 ≡ new_root_words heap c
    moved =
        ap (λ ws. ws ++ replicate (length heap.roots - k) 0) row_is
        ∙ ap (λ ws. map (moved_to c) (take k heap.roots) ++ ws) (sym (moved_nils c (length heap.roots - k)))
        ∙ ap (λ ws. map (moved_to c) (take k heap.roots) ++ map (moved_to c) ws) (sym nils)
        ∙ sym (map-append (moved_to c) (take k heap.roots) (drop k heap.roots))
        ∙ ap (map (moved_to c)) (take-append-drop k heap.roots)
        ∙ all_moved heap c

-- ---- searching them

-- a search of all roots finds the root that a step would
pub search_finds : (c : Collection) (g : Graph) (to : ℕ) (found : Option MissingRoot) → to ≡ length g.roots
    → (found ≡ None → (p : ℕ) → 0 ≤ p → p < to → HasReplicaOf c (root g p)) → IfSome found (λ r. IsMissing c g 0 to r.place r.target.0) → option_map (λ (r : MissingRoot). r.target.0) found ≡ root_target c g
search_finds c g to None same none some = sym (all_replicated c g (λ p l. none refl p (omega arith) (omega (arith, l, same))))
search_finds c g to (Some r) same none some = sym (first_missing c g to r.place r.target.0 some)
