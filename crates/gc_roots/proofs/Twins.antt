-- What commands, steps, looks and flips leave of a row of twins.
use Rattle.std.proofs.Common.{◌≡◌, ◌≢◌, ⊎_elim, ℕ, ◌+◌, ◌<◌, ◌≤◌, true, false, List, length, get_or-set_same, get_or-set_other, Option, Some, sym, ap, ◌∙◌, subst, arith}
use Rattle.std.specs.Prelude.{IfSome, slice_index}
use Rattle.std.proofs.lemmas.Bool.{cases_eq}
use Rattle.std.proofs.lemmas.List.{length-set}
use Rattle.gc_graph.specs.Slots.{roots_of}
use Rattle.gc_graph.specs.Graph.{Nil, root}
use Rattle.gc_graph.specs.declared.command.Op.{Op}
use Rattle.gc_words.specs.Marks.{is_marked}
use Rattle.gc_model.specs.State.{Collection, State}
use Rattle.gc_model.specs.Steps.{mutate, collect, with_collection}
use Rattle.gc_model.specs.Staying.{root_written}
use Rattle.gc_model.specs.declared.step.Step.{Step}
use Rattle.gc_model.specs.declared.step.Step.TheVariants as steps
use Rattle.gc_model.proofs.Public.{root_kept, roots_counted, steps_stay}
use Rattle.gc_copy.specs.Twins.{IsTwin}
use Rattle.gc_roots.specs.Twins.{RootRow, KnowsTwin, KeepsTwins, IsWritten, IsLooked, twin_at, begun}
use Rattle.gc_roots.proofs.Stay.{mutate_stays, collect_stays}

-- ---- commands

-- the command writes no root at this place or after it
abbrev pub WritesBelow : ℕ → ℕ → Op → Type 0
WritesBelow end m op = (q : ℕ) → root_written m op ≡ Some q → q < end

not_this : (end m : ℕ) (op : Op) (p : ℕ) → WritesBelow end m op → end ≤ p → root_written m op ≢ Some p
not_this end m op p below le e = let less = below p e in absurd (omega (arith, less, le))

-- a command that writes a slot, or no root, leaves the row as it is
pub slot_command : (row : RootRow) (s : State) (m : ℕ) (op : Op) → WritesBelow (roots_of s.mutators) m op → KeepsTwins row s → KeepsTwins row (mutate s m op).1
slot_command row s m op below k = record {
  counted = k.counted ∙ sym (roots_counted s m op);
  front_high = k.front_high;
  used_high = k.used_high;
  stale_high = k.stale_high;
  unused = λ i le. root_kept s m op (roots_of s.mutators + i) (other i) ∙ k.unused i le;
  clean = k.clean;
  right = λ i less none. mutate_stays s m op (roots_of s.mutators + i) (twin_at s row i) (other i) (k.right i less none);
}
  where
    other : (i : ℕ) → root_written m op ≢ Some (roots_of s.mutators + i)
    other i = not_this (roots_of s.mutators) m op (roots_of s.mutators + i) below (omega arith)

-- a command that writes extra root i; the root is below the bound of use afterwards, or nil
pub root_command : (row now : RootRow) (s : State) (m i : ℕ) (op : Op) → root_written m op ≡ Some (roots_of s.mutators + i) → IsWritten row now i → row.used ≤ now.used → roots_of s.mutators + now.used ≤ length row.twins
    → (now.used ≤ i → root (mutate s m op).1.heap.graph (roots_of s.mutators + i) ≡ Nil) → KeepsTwins row s → KeepsTwins now (mutate s m op).1
root_command row now s m i op at w more high nil k = record {
  counted = ap length w.twins ∙ k.counted ∙ sym (roots_counted s m op);
  front_high = omega (arith, w.front, ap length w.twins, k.front_high);
  used_high = omega (arith, ap length w.twins, high);
  stale_high = omega (arith, w.stale, ap length w.twins, k.stale_high);
  unused = λ j le. ⊎_elim
      (λ same. subst (λ q. root (mutate s m op).1.heap.graph (roots_of s.mutators + q) ≡ Nil) (sym same) (nil (subst (λ q. now.used ≤ q) same le)))
      (λ differ. root_kept s m op (roots_of s.mutators + j) (other j differ) ∙ k.unused j (omega (arith, le, more)))
      (cases_eq j i);
  clean = λ j le1 le2. ap (λ (xs : List ℕ). slice_index xs (roots_of s.mutators + j)) w.twins ∙ k.clean j (omega (arith, le1, w.front)) (omega (arith, le2, w.stale));
  right = λ j less none. ⊎_elim
      (λ same. absurd (let bad : true ≡ false = sym (w.marked (omega (arith, same, less, w.front))) ∙ subst (λ q. is_marked now.marks q ≡ false) same none in cc bad))
      (λ differ. subst (λ (xs : List ℕ). KnowsTwin (mutate s m op).1 (roots_of s.mutators + j) (slice_index xs (roots_of s.mutators + j))) (sym w.twins)
      (mutate_stays s m op (roots_of s.mutators + j) (twin_at s row j) (other j differ) (k.right j (omega (arith, less, w.front)) (sym (w.others j differ) ∙ none))))
      (cases_eq j i);
}
  where
    other : (j : ℕ) → j ≢ i → root_written m op ≢ Some (roots_of s.mutators + j)
    other j differ e = let same : roots_of s.mutators + i ≡ roots_of s.mutators + j = cc (sym at ∙ e) in differ (omega (arith, same))

-- ---- steps

-- a step that does not flip leaves the row as it is
pub step_keeps : (row : RootRow) (s : State) (c : Collection) (step : Step) → s.collection ≡ Some c → step ≢ steps.Flip → KeepsTwins row s → KeepsTwins row (collect s step).1
step_keeps row s c step is other k = subst (KeepsTwins row) (sym (steps_stay s step other)) (record {
  counted = k.counted;
  front_high = k.front_high;
  used_high = k.used_high;
  stale_high = k.stale_high;
  unused = k.unused;
  clean = k.clean;
  right = λ i less none. subst (λ t. KnowsTwin t (roots_of s.mutators + i) (twin_at s row i)) (steps_stay s step other) (collect_stays (roots_of s.mutators + i) (twin_at s row i) s c step is (k.right i less none));
})

-- where nothing is looked at, nothing is said of a collection
pub begun_keeps : (row : RootRow) (s : State) (o : Option Collection) → KeepsTwins row s → KeepsTwins (begun row) (with_collection s o)
begun_keeps row s o k = record {
  counted = k.counted;
  front_high = omega (arith, k.front_high);
  used_high = k.used_high;
  stale_high = omega (arith, k.front_high, k.stale_high);
  unused = k.unused;
  clean = λ i le1 le2. k.clean i (omega (arith, le2)) (omega (arith, le2));
  right = λ i less. absurd (omega (arith, less));
}

-- ---- a look

pub looked_keeps : (row now : RootRow) (s : State) (c : Collection) (k word : ℕ) → s.collection ≡ Some c → IsLooked row now (roots_of s.mutators) k word → now.used ≡ row.used → k ≤ row.front → roots_of s.mutators + k < length row.twins
    → IsTwin c (root s.heap.graph (roots_of s.mutators + k)) word → KeepsTwins row s → KeepsTwins now s
looked_keeps row now s c k word is l used low within twin h = record {
  counted = long ∙ h.counted;
  front_high = omega (arith, l.front, long, h.front_high, within);
  used_high = omega (arith, used, long, h.used_high);
  stale_high = omega (arith, l.stale, long, h.stale_high);
  unused = λ i le. h.unused i (omega (arith, le, used));
  clean = λ i le1 le2. beside i (omega (arith, le1, l.front)) ∙ h.clean i (omega (arith, le1, l.front)) (omega (arith, le2, l.stale));
  right = λ i less none. ⊎_elim
      (λ same. subst (λ q. KnowsTwin s (roots_of s.mutators + q) (slice_index now.twins (roots_of s.mutators + q))) (sym same) here)
      (λ differ. subst (KnowsTwin s (roots_of s.mutators + i)) (sym (beside i differ)) (h.right i (omega (arith, less, l.front, low, differ)) (sym (l.others i differ) ∙ none)))
      (cases_eq i k);
}
  where
    long : length now.twins ≡ length row.twins
    long = ap length l.twins ∙ length-set row.twins (roots_of s.mutators + k) word

    beside : (i : ℕ) → i ≢ k → slice_index now.twins (roots_of s.mutators + i) ≡ slice_index row.twins (roots_of s.mutators + i)
    beside i differ = ap (λ (xs : List ℕ). slice_index xs (roots_of s.mutators + i)) l.twins ∙ get_or-set_other row.twins (roots_of s.mutators + k) (roots_of s.mutators + i) word 0 (λ e. differ (omega (arith, e)))

    there : slice_index now.twins (roots_of s.mutators + k) ≡ word
    there = ap (λ (xs : List ℕ). slice_index xs (roots_of s.mutators + k)) l.twins ∙ get_or-set_same row.twins (roots_of s.mutators + k) word 0 within

    here : KnowsTwin s (roots_of s.mutators + k) (slice_index now.twins (roots_of s.mutators + k))
    here = subst (KnowsTwin s (roots_of s.mutators + k)) (sym there) (subst (λ o. IfSome o (λ d. IsTwin d (root s.heap.graph (roots_of s.mutators + k)) word)) (sym is) twin)
