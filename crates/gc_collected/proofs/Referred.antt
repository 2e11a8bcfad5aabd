-- A root that takes a value, such as a reference: the collection still belongs to the heap, and what is known of extra roots is still true.
use Rattle.std.proofs.lemmas.Grind.{common_steps}
use Rattle.std.proofs.Common.{◌≡◌, ◌≢◌, inl, inr, ⊎_elim, ℕ, zero, suc, ◌+◌, ◌-◌, ◌<◌, ◌≤◌, true, false, List, [], ◌∷◌, length, is_some, Option, refl, sym, ◌∙◌, ap, subst, arith}
use Rattle.std.specs.Prelude.{IfSome, max, slice_get, slice_index, slice_set}
use Rattle.std.specs.Option.{option_map, unwrap_or}
use Rattle.std.proofs.lemmas.Bool.{cases_eq, cases_lt, cond-true}
use Rattle.std.proofs.lemmas.List.{length-set}
use Rattle.gc_graph.specs.Slots.{SlotName, place, roots_of}
use Rattle.gc_graph.specs.Graph.{Value, lookup, root, set_root, Nil}
use Rattle.gc_graph.specs.declared.reply.Reply.TheVariants.{Done, NoObject}
use Rattle.gc_words.specs.Image.{Block, block_at, is_start, objects_of, object_of_block}
use Rattle.gc_words.proofs.Public.{object_found}
use Rattle.gc_heap.specs.Heap.{HeapWords, graph_in}
use Rattle.gc_words.specs.Marks.{is_marked}
use Rattle.gc_model.specs.State.{Collection, State}
use Rattle.gc_model.specs.Staying.{HasReplicaOf}
use Rattle.gc_copy.specs.Twins.{IsTwin}
use Rattle.gc_roots.specs.Twins.{twin_at}
use Rattle.gc_copy.specs.Words.{CollectionWords, state_of}
use Rattle.gc_collected.specs.Internal.CollectedHeap.{Fits}
use Rattle.gc_collected.specs.Internal.KnownRoots.{ComparesTwins, HasStored, HasWritten, KnowsRoots}
use Rattle.gc_collected.specs.Internal.Values.{with_value}
use Rattle.gc_collected.specs.Referring.{refer_step, with_reference}
use Rattle.gc_collected.specs.declared.known.KnownRoots.{KnownRoots}
use Rattle.gc_collected.proofs.Marks.{forgetting}

-- an object starts where the graph has one
some_mapped : (o : Option Block) → is_some (option_map object_of_block o) ≡ is_some o
some_mapped o = grind (arith, common_steps)

pub start_named : (words : List ℕ) (a : ℕ) → is_some (lookup (objects_of words) a) ≡ is_start words a
start_named words a = ap is_some (object_found words a) ∙ some_mapped (block_at words a)

-- ---- the state

module _ (h new : HeapWords) (p : ℕ) (v : Value) (space : new.space ≡ h.space) (graph : graph_in new ≡ set_root (graph_in h) p v) (mutators : new.mutators ≡ h.mutators) where
  pub valued : (o : Option Collection) → state_of new o ≡ with_value (state_of h o) p v
  valued o = grind (arith, common_steps)

  pub still_fits : (epoch : ℕ) (o : Option CollectionWords) → Fits epoch h o → Fits epoch new o
  still_fits epoch o fits = grind (arith, common_steps)

-- ---- the marks

root_beside : (vs : List Value) (p q : ℕ) (v : Value) → p ≢ q → unwrap_or (slice_get (slice_set vs p v) q) Nil ≡ unwrap_or (slice_get vs q) Nil
root_beside [] p q v other = refl
root_beside (x ∷ vs) zero zero v other = absurd (other refl)
root_beside (x ∷ vs) zero (suc q) v other = refl
root_beside (x ∷ vs) (suc p) zero v other = refl
root_beside (x ∷ vs) (suc p) (suc q) v other = root_beside vs p q v (λ e. other (ap suc e))

-- a root takes a value, as `HasStored` says of what is known
module _ (was now : KnownRoots) (s : State) (p : ℕ) (v : Value) (k : KnowsRoots was s) where
  same_length : length (slice_set s.heap.graph.roots p v) ≡ length s.heap.graph.roots
  same_length = length-set s.heap.graph.roots p v

  beside : (q : ℕ) → p ≢ q → root (set_root s.heap.graph p v) q ≡ root s.heap.graph q
  beside q other = root_beside s.heap.graph.roots p q v other

  -- of the slots nothing is known afterwards, if it was one of them
  slot_valued : p < roots_of s.mutators → KnowsRoots (forgetting was) (with_value s p v)
  slot_valued low = record {
    slots_high = omega arith;
    slots = λ q less. absurd (omega (arith, less));
    keeps = record {
      counted = k.keeps.counted ∙ sym same_length;
      front_high = k.keeps.front_high;
      used_high = k.keeps.used_high;
      stale_high = k.keeps.stale_high;
      unused = λ i le. beside (roots_of s.mutators + i) (λ e. absurd (omega (arith, e, low))) ∙ k.keeps.unused i le;
      clean = k.keeps.clean;
      right = λ i less none. subst (λ v. IfSome s.collection (λ c. IsTwin c v (twin_at s was.twins i))) (sym (beside (roots_of s.mutators + i) (λ e. absurd (omega (arith, e, low))))) (k.keeps.right i less none);
    };
  }

  -- an extra root is in use afterwards, and to be looked at again
  extra_valued : p < length s.heap.graph.roots → roots_of s.mutators ≤ p → HasWritten was now (p - roots_of s.mutators) → now.twins.used ≡ max was.twins.used (p - roots_of s.mutators + 1) → KnowsRoots now (with_value s p v)
  extra_valued within high w used = record {
    slots_high = omega (arith, w.slots, k.slots_high);
    slots = λ q less. subst (λ v. IfSome s.collection (λ c. HasReplicaOf c v)) (sym (beside q (λ e. absurd (omega (arith, e, less, high, w.slots, k.slots_high))))) (k.slots q (omega (arith, less, w.slots)));
    keeps = record {
      counted = ap length w.twins.twins ∙ k.keeps.counted ∙ sym same_length;
      front_high = omega (arith, w.twins.front, ap length w.twins.twins, k.keeps.front_high);
      used_high = omega (arith, used, ap length w.twins.twins, k.keeps.used_high, k.keeps.counted, within, high);
      stale_high = omega (arith, w.twins.stale, ap length w.twins.twins, k.keeps.stale_high);
      unused = λ i le. beside (roots_of s.mutators + i) (λ e. absurd (omega (arith, e, le, used))) ∙ k.keeps.unused i (omega (arith, le, used));
      clean = λ i le1 le2. ap (λ (xs : List ℕ). slice_index xs (roots_of s.mutators + i)) w.twins.twins ∙ k.keeps.clean i (omega (arith, le1, w.twins.front)) (omega (arith, le2, w.twins.stale));
      right = λ i less none. ⊎_elim
          (λ same. absurd (let bad : true ≡ false = sym (w.twins.marked (omega (arith, same, less, w.twins.front))) ∙ subst (λ q. is_marked now.twins.marks q ≡ false) same none in cc bad))
          (λ differ. subst (λ (xs : List ℕ). IfSome s.collection (λ c. IsTwin c (root (set_root s.heap.graph p v) (roots_of s.mutators + i)) (slice_index xs (roots_of s.mutators + i)))) (sym w.twins.twins)
          (subst (λ v. IfSome s.collection (λ c. IsTwin c v (twin_at s was.twins i))) (sym (beside (roots_of s.mutators + i) (λ e. differ (omega (arith, e, high)))))
          (k.keeps.right i (omega (arith, less, w.twins.front)) (sym (w.twins.others i differ) ∙ none))))
          (cases_eq i (p - roots_of s.mutators));
    };
  }

pub valued_known : (was now : KnownRoots) (s : State) (p : ℕ) (v : Value) → p < length s.heap.graph.roots → HasStored was now 0 (max was.twins.used (p - roots_of s.mutators + 1)) (roots_of s.mutators) p → KnowsRoots was s × ComparesTwins was
    → KnowsRoots now (with_value s p v) × ComparesTwins now
valued_known was now s p v within taken k = elim (cases_lt p (roots_of s.mutators)) [
  | inl low ↦ subst (λ (n : KnownRoots). KnowsRoots n (with_value s p v) × ComparesTwins n) (sym (taken.slot low)) (slot_valued was now s p v k.0 low, k.1)
  | inr high ↦ (extra_valued was now s p v k.0 within high (taken.extra high) (taken.used high), (taken.extra high).compares k.1)
]

-- ---- the reply

pub refers : (s new : State) (m a : ℕ) (d : SlotName) → is_some (lookup s.heap.graph.objects a) ≡ true → with_reference s (place d m) a ≡ new → refer_step s m d a ≡ (Done, new)
refers s new m a d there is = cond-true (is_some (lookup s.heap.graph.objects a)) (Done, with_reference s (place d m) a) (NoObject, s) there ∙ ap (λ (x : State). (Done, x)) is
