-- The pair of the open collection is that of the state, whether its links have a mark or not.
use Rattle.std.proofs.lemmas.Grind.{common_steps}
use Rattle.std.proofs.Common.{◌≡◌, Option, Some, subst, arith}
use Rattle.std.specs.Option.{option_map}
use Rattle.gc_heap.specs.Heap.{HeapWords}
use Rattle.gc_cert.specs.Grammar.{CertifiedPair}
use Rattle.std.specs.Prelude.{IfSome}
use Rattle.gc_model.specs.State.{State}
use Rattle.gc_copy.specs.Words.{CollectionWords, collection_in, state_of, open_state}
use Rattle.gc_collected.specs.Flip.{flip_pair}

-- what holds of the pair of the collection that is open holds of the pair of this state
pub pair_now : (says : CertifiedPair → Type 0) (heap : HeapWords) (was : Option CollectionWords) (c : CollectionWords) (now : State) → was ≡ Some c → state_of heap (option_map collection_in was) ≡ now
    → says (flip_pair (open_state heap c) (collection_in c)) → IfSome now.collection (λ d. says (flip_pair now d))
pair_now says heap was c now is view h = grind (arith, common_steps)

-- taking the mark from the links does not change the pair
pub same_pair : (says : CertifiedPair → Type 0) (heap new : HeapWords) (c after : CollectionWords) → open_state new after ≡ open_state heap c → after ≡ record c { epoch = 0 }
    → says (flip_pair (open_state new after) (collection_in after)) → says (flip_pair (open_state heap c) (collection_in c))
same_pair says heap new c after state unmarked h = subst says (λ i. flip_pair (state i) (collection_in (unmarked i))) h

-- so what holds of the pair without the mark holds of the pair of this state
pub pair_unmarked : (says : CertifiedPair → Type 0) (heap new : HeapWords) (was : Option CollectionWords) (c after : CollectionWords) (now : State) → was ≡ Some c → state_of heap (option_map collection_in was) ≡ now → open_state new after ≡ open_state heap c → after ≡ record c { epoch = 0 }
    → says (flip_pair (open_state new after) (collection_in after)) → IfSome now.collection (λ d. says (flip_pair now d))
pair_unmarked says heap new was c after now is view state unmarked h = pair_now says heap was c now is view (same_pair says heap new c after state unmarked h)
