-- The loop that takes the mark from links: it goes over the objects of the heap, whose links it changes.
use Rattle.std.proofs.lemmas.Grind.{common_steps}
use Rattle.std.proofs.Common.{◌≡◌, ◌⊎◌, inl, inr, ℕ, ◌+◌, ◌-◌, ◌<◌, true, List, [], ◌∷◌, ◌++◌, length, drop, Some, refl, ap, sym, subst, arith, length-set}
use Rattle.std.specs.Result.{result_unwrap_or}
use Rattle.std.proofs.lemmas.Bool.{cases_eq}
use Rattle.std.proofs.lemmas.List.{drop-set-lt}
use Rattle.gc_words.specs.Image.{Block, walk, blocks, is_start}
use Rattle.gc_words.specs.Layout.{link_place}
use Rattle.gc_words.specs.Spelling.{link_at}
use Rattle.gc_words.specs.Space.{with_word}
use Rattle.gc_words.specs.Walking.{next_of}
use Rattle.gc_words.proofs.Public.{walk_from, Behind, behind, link_written, link_written_there, link_written_beside}
use Rattle.gc_heap.specs.Heap.{HeapWords, IsHeap}
use Rattle.gc_model.specs.Members.{In}
use Rattle.gc_copy.specs.Internal.Words.{KeepsGraph}
use Rattle.gc_copy.proofs.Words.{block_found_in}
use Rattle.gc_copy.proofs.ObjectWalks.{Met, met_none, Passing, passing, start_met}
use Rattle.gc_copy.proofs.OpenCollection.{linked_heap, same_graph}
use Rattle.gc_copy.proofs.Dropping.{then_kept}

-- ---- the loop's invariant

-- an object at this place or after it
abbrev pub IsNext : List ℕ → ℕ → ℕ → Type 0
IsNext words at a = (e : ℕ × Block) × In e (result_unwrap_or (walk_from words at) []) × (e.0 ≡ a)

-- an object was passed and its link is lowered, or it is still ahead and its link is as it was
abbrev pub IsLowered : ℕ → HeapWords → HeapWords → ℕ → ℕ → Type 0
IsLowered mark old now at a =
    ((a < at) × (link_at now.space.words a ≡ link_at old.space.words a - mark)) ⊎ (IsNext now.space.words at a × (link_at now.space.words a ≡ link_at old.space.words a))

-- the heap differs from the old one only in links
pub record Lowers (mark : ℕ) (old now : HeapWords) (at : ℕ) : Type 0 where
  pub done : List (ℕ × Block)
  pub met : Met now.space.words at done
  pub sound : IsHeap now
  pub graph : KeepsGraph old now
  pub links : (a : ℕ) → is_start old.space.words a ≡ true → IsLowered mark old now at a

-- ---- its steps

-- at first every object is ahead
pub lowers_none : (mark : ℕ) (heap : HeapWords) → IsHeap heap → Lowers mark heap heap 1
lowers_none mark heap is = record {
  done = [];
  met = met;
  sound = is;
  graph = same_graph heap;
  links = λ a start. let b = block_found_in (blocks heap.space.words) a start in inr (((a, b.0), subst (In (a, b.0)) met.split b.1, refl), refl);
}
  where
    met : Met heap.space.words 1 []
    met = met_none heap.space is.space

-- the link of one object is lowered
pub lowers_more : (mark : ℕ) (old now new : HeapWords) (at next link : ℕ) → Lowers mark old now at → at < length now.space.words → next_of now.space.words at ≡ Some next → link ≡ link_at now.space.words at - mark
    → new ≡ record now { space = with_word now.space (link_place at) link } → IsHeap new → Lowers mark old new next
lowers_more mark old now new at next link k less e low is sound =
    subst (λ h. Lowers mark old h next) (sym is) (record {
      done = _;
      met = met;
      sound = subst IsHeap is sound;
      graph = then_kept old now after k.graph (linked_heap now at link k.sound there);
      links = λ a begins. elim (cases_eq at a) [
        | inl here ↦ lowered a here (k.links a begins)
        | inr other ↦ beside a other (k.links a begins)
      ];
    })
  where
    after : HeapWords
    after = record now { space = with_word now.space (link_place at) link }

    p : Passing now.space.words at next k.done
    p = passing now.space.words at next k.done k.met less e

    b : Behind now.space.words at next
    b = behind now.space.words at next less (k.met).walked e

    there : is_start now.space.words at ≡ true
    there = start_met now.space.words at k.done k.met less

    kept : drop next after.space.words ≡ drop next now.space.words
    kept = let place = b.step.place in drop-set-lt next now.space.words (at + 1) link (omega arith)

    same : walk_from after.space.words next ≡ walk_from now.space.words next
    same = ap (walk true 0 next) kept

    met : Met after.space.words next (k.done ++ (at, p.block) ∷ [])
    met = grind (arith, common_steps, link_written, there, p, same, length-set)

    lowered : (a : ℕ) → at ≡ a → IsLowered mark old now at a → IsLowered mark old after next a
    lowered a here h = grind (arith, common_steps, after, link_written_there, there, p)

    behind_it : (a : ℕ) → (at ≡ a → ⊥) → IsNext now.space.words at a → IsNext after.space.words next a
    behind_it a other ahead = grind (arith, common_steps, b, after, same)

    beside : (a : ℕ) → (at ≡ a → ⊥) → IsLowered mark old now at a → IsLowered mark old after next a
    beside a other h = grind (arith, common_steps, p, link_written_beside, behind_it)

-- ---- after the last object
