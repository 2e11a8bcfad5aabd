-- The mutator's roots, where each target has a replica.
use Rattle.std.proofs.Common.{◌≡◌, ◌≢◌, ◌&&◌, inl, inr, ⊎_elim, ℕ, zero, suc, ◌+◌, ◌<◌, ◌≤◌, Bool, true, false, true≢false, List, [], ◌∷◌, ◌++◌, length, map, Some, None, is_none, is_some, refl, ap, sym, ◌∙◌, subst, arith}
use Rattle.std.specs.Prelude.{slice_index, IsSome}
use Rattle.std.specs.List.{find, flat_map, list_all}
use Rattle.std.specs.declared.option.Option.{Option as Opt}
use Rattle.std.proofs.lemmas.Bool.{cases_Bool, cond-false}
use Rattle.gc_graph.specs.Graph.{Value, Nil, Num, Ref, names_of}
use Rattle.gc_words.specs.Word.{value_of, word_of}
use Rattle.gc_words.specs.Image.{is_start}
use Rattle.gc_words.specs.Closed.{IsRootWord, RefersToStart}
use Rattle.gc_words.proofs.Public.{header_read}
use Rattle.gc_heap.specs.Heap.{IsHeap, graph_in}
use Rattle.gc_model.specs.State.{Replica, Collection, replica_of, moved}
use Rattle.gc_model.specs.Members.{In}
use Rattle.gc_model.specs.Steps.{is_empty, is_ready, roots_done, scan_done}
use Rattle.gc_model.proofs.Public.{roots_replicated}
use Rattle.gc_concurrent.specs.Ends.{Mine, Theirs}
use Rattle.gc_concurrent.specs.Moves.{half}
use Rattle.gc_concurrent.specs.Heaps.{heap_of}
use Rattle.gc_concurrent.specs.Ends.{its}
use Rattle.gc_concurrent.specs.Internal.Flip.{roots_alone, moved_words}
use Rattle.gc_concurrent.specs.Internal.Copiers.{Claims, HasOwnHalf, moved_by}
use Rattle.gc_concurrent.specs.Internal.Rule.{Loose}
use Rattle.gc_concurrent.proofs.InHand.{and_false}
use Rattle.gc_concurrent.proofs.Memory.{moves_so, unclaimed}

-- a root of a heap is a value, and its target is an object
pub root_fine : (m : Mine) (roots : List ℕ) → IsHeap (heap_of m roots) → (k : ℕ) → k < length roots → IsRootWord m.space.words (slice_index roots k)
root_fine m roots h k l = (h.closed).roots k 0 l

pub root_near : (m : Mine) (roots : List ℕ) → IsHeap (heap_of m roots) → (k a : ℕ) → k < length roots → value_of (slice_index roots k) ≡ Ref a → a + 2 ≤ m.space.size
root_near m roots h k a l is =
    let start : is_start m.space.words a ≡ true = subst (RefersToStart m.space.words) is (root_fine m roots h k l).start in
    let r = header_read m.space.words a (h.space).walked start in
    let w = r.within in let e = (h.space).end_high in omega arith

one_done : (c : Collection) (v : Value) (rest : List ℕ) → find (λ name. is_none (replica_of c name)) rest ≡ None → ((a : ℕ) → v ≡ Ref a → is_none (replica_of c a) ≡ false) → find (λ name. is_none (replica_of c name)) (names_of v ++ rest) ≡ None
one_done c Nil rest e f = e
one_done c (Num n) rest e f = e
one_done c (Ref a) rest e f = cond-false (is_none (replica_of c a)) (Some a) (find (λ name. is_none (replica_of c name)) rest) (f a refl) ∙ e

all_done : (c : Collection) (roots : List ℕ) → ((k a : ℕ) → k < length roots → value_of (slice_index roots k) ≡ Ref a → is_none (replica_of c a) ≡ false) → find (λ name. is_none (replica_of c name)) (flat_map names_of (map value_of roots)) ≡ None
all_done c [] f = refl
all_done c (w ∷ ws) f = one_done c (value_of w) (flat_map names_of (map value_of ws)) (all_done c ws (λ k a l is. f (suc k) a (omega arith) is)) (λ a is. f 0 a (omega arith) is)

pub roots_placed : (t : Theirs) (roots : List ℕ) → ((k a : ℕ) → k < length roots → value_of (slice_index roots k) ≡ Ref a → IsSome (replica_of (its t) a)) → roots_done (its t) (roots_alone roots) ≡ true
roots_placed t roots placed = ap is_none (all_done (its t) roots (λ k a l is. no_none (replica_of (its t) a) (placed k a l is)))
  where
    no_none : (o : Opt Replica) → IsSome o → is_none o ≡ false
    no_none None there = absurd (true≢false (sym there))
    no_none (Some r) there = refl

pub roots_moved : (row : List ℕ) (t : Theirs) (roots : List ℕ) → Claims row t → ((k a : ℕ) → k < length roots → value_of (slice_index roots k) ≡ Ref a → HasOwnHalf t a)
    → ((k a : ℕ) → k < length roots → value_of (slice_index roots k) ≡ Ref a → slice_index row (half a) ≢ 0) → map (λ w. word_of (moved_by row (value_of w))) roots ≡ moved_words t roots
roots_moved row t [] c own placed = refl
roots_moved row t (w ∷ ws) c own placed =
    let one : moved (its t) (value_of w) ≡ moved_by row (value_of w) = moves_so row t (value_of w) c (λ a is. own 0 a (omega arith) is) (λ a is. placed 0 a (omega arith) is) in
    let rest = roots_moved row t ws c (λ k a l is. own (suc k) a (omega arith) is) (λ k a l is. placed (suc k) a (omega arith) is) in
    λ i. word_of (sym one i) ∷ rest i

-- where nothing is left to do, the collection is ready
pub ready_in : (m : Mine) (t : Theirs) (roots : List ℕ) → t.due ≡ [] → scan_done (its t) ≡ true → roots_done (its t) (roots_alone roots) ≡ true → is_ready (its t) (graph_in (heap_of m roots)) ≡ true
ready_in m t roots applied scanned rooted = λ i. list_all is_empty (applied i ∷ []) && scanned i && rooted i

pub value_in : (roots : List ℕ) (k : ℕ) (v : Value) → k < length roots → value_of (slice_index roots k) ≡ v → In v (map value_of roots)
value_in [] k v l e = absurd (omega arith)
value_in (w ∷ ws) zero v l e = inl e
value_in (w ∷ ws) (suc k) v l e = inr (value_in ws k v (omega arith) e)

-- where the roots are done, each target has a replica
pub root_replica : (t : Theirs) (roots : List ℕ) → roots_done (its t) (roots_alone roots) ≡ true → (k a : ℕ) → k < length roots → value_of (slice_index roots k) ≡ Ref a → IsSome (replica_of (its t) a)
root_replica t roots done k a l is = let r = roots_replicated (its t) (roots_alone roots) done (Ref a) (value_in roots k (Ref a) l is) in ap is_some r.1

-- the collection is not ready where a target has none
pub root_missing : (m : Mine) (t : Theirs) (row roots : List ℕ) → Claims row t → ∥ Loose t ∥₁ → (k a : ℕ) → k < length roots → value_of (slice_index roots k) ≡ Ref a → HasOwnHalf t a → slice_index row (half a) ≡ 0
    → is_ready (its t) (graph_in (heap_of m roots)) ≡ false
root_missing m t row roots claims loose k a l is own none =
    let rooted : Bool = roots_done (its t) (roots_alone roots) in
    let missing = ap is_some (unclaimed row t a loose claims own none) in
    ap (λ b. list_all is_empty (its t).logs && scan_done (its t) && b) (⊎_elim (λ done. absurd (true≢false (sym (root_replica t roots done k a l is) ∙ missing))) (λ e. e) (cases_Bool rooted)) ∙ and_false (list_all is_empty (its t).logs && scan_done (its t))
