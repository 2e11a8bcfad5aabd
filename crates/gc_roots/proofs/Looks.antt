-- What a search finds, and the twins of the slots.
use Rattle.std.proofs.Common.{◌≡◌, ⊎_elim, ℕ, ◌+◌, ◌-◌, ◌<◌, true, false, List, length, set, get_or-set_same, get_or-set_other, Option, Some, None, is_some, slice_get, refl, sym, ap, ◌∙◌, subst, arith}
use Rattle.std.specs.Prelude.{IfSome, IsSome, is_none, slice_index, slice_set}
use Rattle.std.specs.Option.{unwrap_or}
use Rattle.std.proofs.lemmas.Grind.{common_steps}
use Rattle.std.proofs.lemmas.Bool.{cases_eq}
use Rattle.std.proofs.lemmas.List.{length-set}
use Rattle.gc_graph.specs.Slots.{roots_of}
use Rattle.gc_graph.specs.Graph.{Value, Nil, Ref, Graph, root}
use Rattle.gc_model.specs.State.{Collection, State, replica_of}
use Rattle.gc_model.specs.Staying.{IsMissing, HasReplicaOf}
use Rattle.gc_model.specs.Steps.{root_target}
use Rattle.gc_model.proofs.Public.{HasReplica, roots_replicated, get_in}
use Rattle.gc_copy.specs.Twins.{IsTwin}
use Rattle.gc_words.specs.Marks.{is_marked}
use Rattle.gc_roots.specs.Looks.{LookRow, ComparesKnown, ComparesOnly}
use Rattle.gc_roots.specs.Twins.{RootRow, KnowsTwin, KeepsTwins, IsLooked, IsNextRoot}

-- the next root lies within the row
pub next_within : (row : RootRow) (s : State) (k : ℕ) → KeepsTwins row s → IsNextRoot row k → roots_of s.mutators + k < length row.twins
next_within row s k h next = omega (arith, next.within, h.front_high, h.used_high, h.stale_high)

-- where the target of the next root has no replica, it is the first such root
pub missing_next : (row : RootRow) (s : State) (c : Collection) (k p name : ℕ) → s.collection ≡ Some c → KeepsTwins row s → IsNextRoot row k → p ≡ roots_of s.mutators + k → root s.heap.graph p ≡ Ref name → replica_of c name ≡ None
    → IsMissing c s.heap.graph (roots_of s.mutators) (length s.heap.graph.roots) p name
missing_next row s c k p name is h next at refers none = record {
  low = omega (arith, at);
  high = omega (arith, at, next_within row s k h next, h.counted);
  before = λ q low less. (let i : ℕ = q - roots_of s.mutators in
      let back : roots_of s.mutators + (q - roots_of s.mutators) ≡ q = omega (arith, low) in
      let twin = h.right (q - roots_of s.mutators) (omega (arith, low, less, at, next.low)) (next.before (q - roots_of s.mutators) (omega (arith, low, less, at))) in
      (subst (λ x. IsTwin c (root s.heap.graph x) (slice_index row.twins x)) back (subst (λ o. IfSome o (λ d. IsTwin d (root s.heap.graph (roots_of s.mutators + (q - roots_of s.mutators))) (slice_index row.twins (roots_of s.mutators + (q - roots_of s.mutators))))) is twin)).known);
  target = refers;
  missing = none;
}

-- a look by both leaves the checker with roots whose twins are up to date
pub looked_compares : (row now : RootRow) (looks after : LookRow) (slots k word : ℕ) → IsLooked row now slots k word → ComparesOnly looks after k → ComparesKnown row looks → ComparesKnown now after
looked_compares row now looks after slots k word l at h i less none = ⊎_elim
    (λ same. (omega (arith, same, l.front), subst (λ q. is_marked now.marks q ≡ false) (sym same) l.none))
    (λ differ. (let was = at i differ less none in
    let known = h i was.0 was.1 in
    (omega (arith, known.0, l.front), l.others i differ ∙ known.1)))
    (cases_eq i k)

-- the twin of a slot
pub slot_written : (row now : RootRow) (s : State) (p word : ℕ) → now ≡ record row { twins = slice_set row.twins p word } → p < roots_of s.mutators → KeepsTwins row s → KeepsTwins now s
slot_written row now s p word is less h = subst (λ r. KeepsTwins r s) (sym is) (record {
  counted = length-set row.twins p word ∙ h.counted;
  front_high = omega (arith, length-set row.twins p word, h.front_high);
  used_high = omega (arith, length-set row.twins p word, h.used_high);
  stale_high = omega (arith, length-set row.twins p word, h.stale_high);
  unused = h.unused;
  clean = λ k le1 le2. beside k ∙ h.clean k le1 le2;
  right = λ k l none. subst (KnowsTwin s (roots_of s.mutators + k)) (sym (beside k)) (h.right k l none);
})
  where
    beside : (k : ℕ) → slice_index (set row.twins p word) (roots_of s.mutators + k) ≡ slice_index row.twins (roots_of s.mutators + k)
    beside k = get_or-set_other row.twins p (roots_of s.mutators + k) word 0 (λ e. omega (arith, e, less))

-- and the twins of the slots so far
pub slots_written : (row now : RootRow) (s : State) (c : Collection) (p word : ℕ) → now ≡ record row { twins = slice_set row.twins p word } → p < length row.twins → IsTwin c (root s.heap.graph p) word
    → ((q : ℕ) → q < p → IsTwin c (root s.heap.graph q) (slice_index row.twins q)) → (q : ℕ) → q < p + 1 → IsTwin c (root s.heap.graph q) (slice_index now.twins q)
slots_written row now s c p word is within twin before q less = subst (λ (r : RootRow). IsTwin c (root s.heap.graph q) (slice_index r.twins q)) (sym is) (⊎_elim
    (λ same. subst (λ x. IsTwin c (root s.heap.graph x) (slice_index (set row.twins p word) x)) (sym same)
    (subst (IsTwin c (root s.heap.graph p)) (sym (get_or-set_same row.twins p word 0 within)) twin))
    (λ differ. subst (IsTwin c (root s.heap.graph q)) (sym (get_or-set_other row.twins p q word 0 differ)) (before q (omega (arith, less, differ))))
    (cases_eq q p))

-- ---- where each root has a replica of its target

has_one : (c : Collection) (v : Value) → HasReplica c v → HasReplicaOf c v
has_one c v h = grind (arith, common_steps)

pub none_lacks : (c : Collection) (g : Graph) (p name : ℕ) → root_target c g ≡ None → root g p ≡ Ref name → replica_of c name ≡ None → ⊥
none_lacks c g p name done refers none = go (slice_get g.roots p) refl refers
  where
    go : (o : Option Value) → slice_get g.roots p ≡ o → unwrap_or o Nil ≡ Ref name → ⊥
    go None e r = absurd cc
    go (Some v) e r =
        let has : HasReplicaOf c v = has_one c v (roots_replicated c g (ap is_none done) v (get_in v g.roots p e)) in
        let some : IsSome (replica_of c name) = subst (HasReplicaOf c) r has in
        let bad : false ≡ true = sym (ap is_some none) ∙ some in
        cc bad

-- the row is the same but for the twin of a slot
pub rest_same : (was row now : RootRow) (p word : ℕ) → now ≡ record row { twins = slice_set row.twins p word } → row ≡ record was { twins = row.twins } → now ≡ record was { twins = now.twins }
rest_same was row now p word is rest =
    is
    ∙ ap (λ (r : RootRow). record r { twins = slice_set row.twins p word }) rest
    ∙ ap (λ (xs : List ℕ). record was { twins = xs }) (sym (ap (λ (r : RootRow). r.twins) is))
