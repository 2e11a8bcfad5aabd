-- Where no root has to be looked at, the row is the roots of the new heap; and the former roots are a row.
use Rattle.std.proofs.lemmas.Grind.{common_steps, same_number_lists}
use Rattle.std.proofs.Common.{◌≡◌, ⊎_elim, ℕ, zero, suc, ◌+◌, ◌-◌, ◌<◌, ◌≤◌, List, [], ◌∷◌, ◌++◌, length, map, replicate, take, drop, append-nil, slice_get, Some, None, refl, sym, ap, ◌∙◌, subst, arith}
use Rattle.std.specs.Prelude.{IfSome, slice_index}
use Rattle.std.specs.Option.{unwrap_or}
use Rattle.std.proofs.lemmas.Bool.{cases_lt, eqb-true}
use Rattle.std.proofs.lemmas.List.{length-map, length-replicate, drop_all, take-map}
use Rattle.gc_graph.specs.Slots.{roots_of}
use Rattle.gc_graph.specs.Graph.{Value, Nil, root}
use Rattle.gc_words.specs.Word.{value_of, word_of}
use Rattle.gc_model.specs.State.{Collection, State, moved, new_graph}
use Rattle.gc_model.specs.Steps.{collect, root_target}
use Rattle.gc_model.specs.Staying.{HasReplicaOf}
use Rattle.gc_model.specs.declared.step.Step.TheVariants as steps
use Rattle.gc_model.specs.declared.step.StepReply.{StepReply}
use Rattle.gc_model.proofs.Public.{flip_nil, flip_count, all_replicated}
use Rattle.gc_heap.specs.Heap.{HeapWords}
use Rattle.gc_copy.specs.Words.{CollectionWords, AreMoved, collection_in, open_state, new_root_words}
use Rattle.gc_copy.proofs.Public.{moved_to, moved_first, all_moved}
use Rattle.gc_copy.specs.Twins.{IsTwin}
use Rattle.gc_roots.specs.Internal.Rows.{turned}
use Rattle.gc_roots.specs.Twins.{RootRow, KeepsTwins, IsDone, SlotsAreTwins}

-- the new word of a root, read from the list of them
pub new_word : (c : Collection) (vs : List Value) (p : ℕ) → p < length vs → slice_index (map word_of (map (moved c) vs)) p ≡ word_of (moved c (unwrap_or (slice_get vs p) Nil))
new_word c [] p h = absurd (omega arith)
new_word c (v ∷ vs) zero h = refl
new_word c (v ∷ vs) (suc p) h = new_word c vs p (omega arith)

module _ (row : RootRow) (s : State) (c : Collection) (is : s.collection ≡ Some c) (k : KeepsTwins row s) (done : IsDone row) (slots : SlotsAreTwins row s c) where
  of_extra : (i : ℕ) → IsTwin c (root s.heap.graph (roots_of s.mutators + i)) (slice_index row.twins (roots_of s.mutators + i))
  of_extra i = ⊎_elim
      (λ less. subst (λ o. IfSome o (λ d. IsTwin d (root s.heap.graph (roots_of s.mutators + i)) (slice_index row.twins (roots_of s.mutators + i)))) is (k.right i less (done.none i less)))
      (λ le. (let nil : root s.heap.graph (roots_of s.mutators + i) ≡ Nil = k.unused i (omega (arith, le, done.used)) in
      let zero_word : slice_index row.twins (roots_of s.mutators + i) ≡ 0 = k.clean i le (omega (arith, le, done.stale)) in
      record { known = subst (HasReplicaOf c) (sym nil) tt; word_is = zero_word ∙ ap (λ v. word_of (moved c v)) (sym nil) }))
      (cases_lt i row.front)

  all_twins : (p : ℕ) → IsTwin c (root s.heap.graph p) (slice_index row.twins p)
  all_twins p = ⊎_elim
      (λ less. slots p less)
      (λ le. (let back : roots_of s.mutators + (p - roots_of s.mutators) ≡ p = omega (arith, le) in
      subst (λ q. IsTwin c (root s.heap.graph q) (slice_index row.twins q)) back (of_extra (p - roots_of s.mutators))))
      (cases_lt p (roots_of s.mutators))

  -- the row is the list of new root words
  pub new_roots : row.twins ≡ map word_of (new_graph c s.heap.graph.roots).roots
  new_roots = same_number_lists row.twins (map word_of (map (moved c) s.heap.graph.roots)) long
      (λ p less. (all_twins p).word_is ∙ sym (new_word c s.heap.graph.roots p (omega (arith, less, k.counted))))
    where
      long : length row.twins ≡ length (map word_of (map (moved c) s.heap.graph.roots))
      long = k.counted ∙ sym (length-map s.heap.graph.roots (moved c)) ∙ sym (length-map (map (moved c) s.heap.graph.roots) word_of)

  -- and no root lacks a replica
  pub no_target : root_target c s.heap.graph ≡ None
  no_target = all_replicated c s.heap.graph (λ p less. (all_twins p).known)

-- ---- the former roots

-- only 0 is nil
nil_word : (w : ℕ) → value_of w ≡ Nil → w ≡ 0
nil_word w = grind (arith, common_steps, eqb-true)

nil_words : (words : List ℕ) (p : ℕ) → unwrap_or (slice_get (map value_of words) p) Nil ≡ Nil → slice_index words p ≡ 0
nil_words [] p e = refl
nil_words (w ∷ words) zero e = nil_word w e
nil_words (w ∷ words) (suc p) e = nil_words words p e

pub turned_keeps : (row : RootRow) (s t : State) (words : List ℕ) (reply : StepReply) → s.heap.graph.roots ≡ map value_of words → t.collection ≡ None → t.mutators ≡ s.mutators → collect s steps.Flip ≡ (reply, t) → KeepsTwins row s → KeepsTwins (turned row words) t
turned_keeps row s t words reply same none count flips k = record {
  counted = words_long ∙ sym long;
  front_high = omega (arith, k.front_high, k.counted, words_long, mutators);
  used_high = omega (arith, k.used_high, k.counted, words_long, mutators);
  stale_high = omega (arith, k.used_high, k.counted, words_long, mutators);
  unused = λ i le. subst (λ n. root t.heap.graph (n + i) ≡ Nil) (sym mutators)
      (subst (λ (u : State). root u.heap.graph (roots_of s.mutators + i) ≡ Nil) after (flip_nil s (roots_of s.mutators + i) (k.unused i le)));
  clean = λ i low le. subst (λ n. slice_index words (n + i) ≡ 0) (sym mutators)
      (nil_words words (roots_of s.mutators + i) (subst (λ (vs : List Value). unwrap_or (slice_get vs (roots_of s.mutators + i)) Nil ≡ Nil) same (k.unused i le)));
  right = λ i less. absurd (omega (arith, less));
}
  where
    after : (collect s steps.Flip).1 ≡ t
    after = ap (λ (x : StepReply × State). x.1) flips

    mutators : roots_of t.mutators ≡ roots_of s.mutators
    mutators = ap roots_of count

    words_long : length words ≡ length s.heap.graph.roots
    words_long = sym (length-map words value_of) ∙ ap length (sym same)

    long : length t.heap.graph.roots ≡ length s.heap.graph.roots
    long = ap (λ (u : State). length u.heap.graph.roots) (sym after) ∙ flip_count s

-- ---- the part of the row that is in use

pub moved_prefix : (row : RootRow) (heap : HeapWords) (cw : CollectionWords) (n : ℕ) → n ≡ roots_of heap.mutators + row.used → row.twins ≡ new_root_words heap (collection_in cw) → KeepsTwins row (open_state heap cw) → AreMoved (take n row.twins) heap (collection_in cw)
moved_prefix row heap cw n at same k =
    (moved_first heap (collection_in cw) (take n heap.roots) (take n row.twins) n (length (take n heap.roots)) within ends refl (omega arith) whole).1
  where
    within : n ≤ length heap.roots
    within = omega (arith, at, k.used_high, k.counted, length-map heap.roots value_of)

    ends : (p : ℕ) → n ≤ p → unwrap_or (slice_get (map value_of heap.roots) p) Nil ≡ Nil
    ends p le =
        let back : roots_of heap.mutators + (p - roots_of heap.mutators) ≡ p = omega (arith, at, le) in
        subst (λ q. unwrap_or (slice_get (map value_of heap.roots) q) Nil ≡ Nil) back (k.unused (p - roots_of heap.mutators) (omega (arith, at, le)))

    whole : take n row.twins ++ map (moved_to (collection_in cw)) (drop (length (take n heap.roots)) (take n heap.roots)) ≡ map (moved_to (collection_in cw)) (take n heap.roots)
    whole =
        ap (λ xs. take n row.twins ++ map (moved_to (collection_in cw)) xs) (drop_all (length (take n heap.roots)) (take n heap.roots) (omega arith))
        ∙ append-nil (take n row.twins)
        ∙ ap (take n) (same ∙ sym (all_moved heap (collection_in cw)))
        ∙ take-map (moved_to (collection_in cw)) n heap.roots

-- ---- other ends

-- after a flip by other roots, the words of roots in use are no twins, and the others are 0
pub expired_keeps : (row : RootRow) (s t : State) (c : Collection) (reply : StepReply) → s.collection ≡ Some c → t.mutators ≡ s.mutators → collect s steps.Flip ≡ (reply, t) → IsDone row → KeepsTwins row s → KeepsTwins (record row { front = 0; stale = row.used }) t
expired_keeps row s t c reply is count flips done k = record {
  counted = k.counted ∙ sym long;
  front_high = omega (arith, k.front_high, mutators);
  used_high = omega (arith, k.used_high, mutators);
  stale_high = omega (arith, k.used_high, mutators);
  unused = λ i le. subst (λ n. root t.heap.graph (n + i) ≡ Nil) (sym mutators) (subst (λ (u : State). root u.heap.graph (roots_of s.mutators + i) ≡ Nil) after (flip_nil s (roots_of s.mutators + i) (k.unused i le)));
  clean = λ i low le. subst (λ n. slice_index row.twins (n + i) ≡ 0) (sym mutators) (zero_word i le);
  right = λ i less. absurd (omega (arith, less));
}
  where
    after : (collect s steps.Flip).1 ≡ t
    after = ap (λ (x : StepReply × State). x.1) flips

    mutators : roots_of t.mutators ≡ roots_of s.mutators
    mutators = ap roots_of count

    long : length t.heap.graph.roots ≡ length s.heap.graph.roots
    long = ap (λ (u : State). length u.heap.graph.roots) (sym after) ∙ flip_count s

    -- the twin of a root that is nil
    zero_word : (i : ℕ) → row.used ≤ i → slice_index row.twins (roots_of s.mutators + i) ≡ 0
    zero_word i le = ⊎_elim
        (λ less. (let twin : IsTwin c (root s.heap.graph (roots_of s.mutators + i)) (slice_index row.twins (roots_of s.mutators + i)) = subst (λ o. IfSome o (λ d. IsTwin d (root s.heap.graph (roots_of s.mutators + i)) (slice_index row.twins (roots_of s.mutators + i)))) is (k.right i less (done.none i less)) in
        twin.word_is ∙ ap (λ v. word_of (moved c v)) (k.unused i le)))
        (λ high. k.clean i high (omega (arith, high, done.stale)))
        (cases_lt i row.front)

zeros : (n p : ℕ) → slice_index (replicate n 0) p ≡ 0
zeros zero p = refl
zeros (suc n) zero = refl
zeros (suc n) (suc p) = zeros n p

-- a row of zeros beside roots that are all nil
pub opening_keeps : (row : RootRow) (s : State) (count : ℕ) → row.twins ≡ replicate count 0 → row.front ≡ 0 → row.used ≡ 0 → row.stale ≡ 0 → length s.heap.graph.roots ≡ count → roots_of s.mutators ≤ count → ((p : ℕ) → root s.heap.graph p ≡ Nil) → KeepsTwins row s
opening_keeps row s count twins front used stale long low nil = record {
  counted = words ∙ sym long;
  front_high = omega (arith, front, words, low);
  used_high = omega (arith, used, words, low);
  stale_high = omega (arith, stale, words, low);
  unused = λ i le. nil (roots_of s.mutators + i);
  clean = λ i le1 le2. ap (λ (xs : List ℕ). slice_index xs (roots_of s.mutators + i)) twins ∙ zeros count (roots_of s.mutators + i);
  right = λ i less. absurd (omega (arith, less, front));
}
  where
    words : length row.twins ≡ count
    words = ap length twins ∙ length-replicate count 0

-- where the row is done, each extra root's target has a replica
pub extra_known : (row : RootRow) (s : State) (c : Collection) (i : ℕ) → s.collection ≡ Some c → KeepsTwins row s → IsDone row → HasReplicaOf c (root s.heap.graph (roots_of s.mutators + i))
extra_known row s c i is k done = ⊎_elim
    (λ less. (subst (λ o. IfSome o (λ d. IsTwin d (root s.heap.graph (roots_of s.mutators + i)) (slice_index row.twins (roots_of s.mutators + i)))) is (k.right i less (done.none i less))).known)
    (λ le. subst (HasReplicaOf c) (sym (k.unused i (omega (arith, le, done.used)))) tt)
    (cases_lt i row.front)
