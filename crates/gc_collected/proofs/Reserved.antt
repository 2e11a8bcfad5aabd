-- Room in the logs of an open collection changes neither its state nor what is known of the roots.
use Rattle.std.proofs.Common.{◌≡◌, ℕ, Option, Some, refl, sym, ap, ◌∙◌, subst}
use Rattle.std.specs.Option.{option_map}
use Rattle.gc_heap.specs.Heap.{HeapWords}
use Rattle.gc_model.specs.State.{Collection, State}
use Rattle.gc_copy.specs.Words.{CollectionWords, BelongsTo, collection_in, state_of, open_state}
use Rattle.gc_monitor.specs.Tables.{Tables}
use Rattle.gc_collected.specs.Internal.Follows.{Follows}
use Rattle.gc_collected.specs.Internal.CollectedHeap.{Fits}
use Rattle.gc_collected.specs.Internal.KnownRoots.{KnowsRoots}
use Rattle.gc_collected.specs.declared.known.KnownRoots.{KnownRoots}

-- the state is the same
pub opened_at : (heap : HeapWords) (o : Option CollectionWords) (c next : CollectionWords) (now : State) → o ≡ Some c → collection_in next ≡ collection_in c → state_of heap (option_map collection_in o) ≡ now → open_state heap next ≡ now
opened_at heap o c next now is same view = ap (λ (d : Collection). state_of heap (Some d)) same ∙ ap (λ o. state_of heap (option_map collection_in o)) (sym is) ∙ view

-- the collection belongs to the heap, and as much is known of the roots
pub reserved : {C : Type 0} (epoch : ℕ) (known : KnownRoots) (heap : HeapWords) (o : Option CollectionWords) (c next : CollectionWords) → o ≡ Some c → collection_in next ≡ collection_in c → ((heap : HeapWords) → BelongsTo heap c → BelongsTo heap next)
    → Fits epoch heap o × KnowsRoots known (state_of heap (option_map collection_in o)) × C → BelongsTo heap next × KnowsRoots known (open_state heap next) × C
reserved epoch known heap o c next is same belongs k = (
  belongs heap (subst (Fits epoch heap) is k.0),
  subst (KnowsRoots known) (sym (opened_at heap o c next (state_of heap (option_map collection_in o)) is same refl)) k.1,
  k.2,
)

-- and a monitor that follows the heap still does
pub reserved_follows : (heap : HeapWords) (o : Option CollectionWords) (c next : CollectionWords) (t : Tables) → o ≡ Some c → collection_in next ≡ collection_in c → Follows (state_of heap (option_map collection_in o)) t → Follows (open_state heap next) t
reserved_follows heap o c next t is same f = subst (λ (s : State). Follows s t) (sym (opened_at heap o c next (state_of heap (option_map collection_in o)) is same refl)) f
