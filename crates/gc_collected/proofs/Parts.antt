-- Room in the logs of an open collection changes neither the state nor what is known of it.
use Rattle.std.proofs.Common.{◌≡◌, ℕ, Bool, true, Option, sym, ap, ◌∙◌, subst}
use Rattle.std.specs.Option.{option_map}
use Rattle.gc_heap.specs.Heap.{HeapWords}
use Rattle.gc_model.specs.State.{State}
use Rattle.gc_monitor.specs.Tables.{Tables}
use Rattle.gc_copy.specs.Words.{CollectionWords, collection_in, state_of}
use Rattle.gc_collected.specs.Internal.Follows.{Follows}
use Rattle.gc_collected.specs.Internal.CollectedHeap.{Fits, state_in}
use Rattle.gc_collected.specs.Internal.KnownRoots.{KnowsRoots}
use Rattle.gc_collected.specs.declared.known.KnownRoots.{KnownRoots}

-- the state is the same
pub same_state : (heap : HeapWords) (o p : Option CollectionWords) (now : State) → option_map collection_in p ≡ option_map collection_in o → state_in heap o ≡ now → state_in heap p ≡ now
same_state heap o p now same view = ap (state_of heap) same ∙ view

-- and so is what is known of it
pub still_known : {C : Type 0} (epoch : ℕ) (known : KnownRoots) (heap : HeapWords) (o p : Option CollectionWords) (t : Tables) (along : Bool) → option_map collection_in p ≡ option_map collection_in o → ((epoch : ℕ) (heap : HeapWords) → Fits epoch heap o → Fits epoch heap p)
    → (Fits epoch heap o × KnowsRoots known (state_in heap o) × C) × (along ≡ true → Follows (state_in heap o) t) → (Fits epoch heap p × KnowsRoots known (state_in heap p) × C) × (along ≡ true → Follows (state_in heap p) t)
still_known epoch known heap o p t along same fits k = (
  (fits epoch heap (k.0).0, subst (λ x. KnowsRoots known (state_of heap x)) (sym same) (k.0).1, (k.0).2),
  λ on. subst (λ x. Follows (state_of heap x) t) (sym same) (k.1 on),
)

-- each mutator has a log in the open collection
