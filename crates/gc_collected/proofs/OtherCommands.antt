-- Commands that write no field: they change only the heap, whether a collection is open or not.
use Rattle.std.proofs.lemmas.Grind.{common_steps}
use Rattle.std.proofs.Common.{◌≡◌, ℕ, ◌<◌, Option, Some, None, subst, arith, rules}
use Rattle.gc_graph.specs.Slots.{roots_of}
use Rattle.std.specs.Option.{option_map}
use Rattle.gc_graph.specs.declared.command.Op.{Op}
use Rattle.gc_graph.specs.declared.reply.Reply.{Reply}
use Rattle.gc_heap.specs.Heap.{HeapWords, IsHeap}
use Rattle.gc_heap.specs.Commands.{Performs}
use Rattle.gc_model.specs.Steps.{WritesField, mutate}
use Rattle.gc_copy.specs.Words.{CollectionWords, collection_in, state_of}
use Rattle.gc_copy.proofs.Public.{open_left, idle_left, still_unlinked}
use Rattle.gc_model.specs.State.{State}
use Rattle.gc_collected.specs.Internal.CollectedHeap.{BelongsIfOpen, Fits}
use Rattle.gc_graph.specs.declared.command.Op.TheVariants as ops
use Rattle.gc_collected.proofs.Marks.{WritesBelow, slot_below}

pub still_fits : (epoch : ℕ) (heap new : HeapWords) (o : Option CollectionWords) (m : ℕ) (op : Op) (reply : Reply) → IsHeap heap → ¬ WritesField op → Performs heap m op reply new → Fits epoch heap o → Fits epoch new o
still_fits epoch heap new None m op reply is none performs fits = still_unlinked epoch heap new m op reply performs fits
still_fits epoch heap new (Some c) m op reply is none performs fits = (open_left heap new c m op reply is fits none performs).1

pub it_belongs : (epoch : ℕ) (heap : HeapWords) (o : Option CollectionWords) → Fits epoch heap o → BelongsIfOpen heap o
it_belongs epoch heap o fits = grind (arith, common_steps)

pub still_belongs : (heap new : HeapWords) (o : Option CollectionWords) (m : ℕ) (op : Op) (reply : Reply) → IsHeap heap → ¬ WritesField op → Performs heap m op reply new → BelongsIfOpen heap o → BelongsIfOpen new o
still_belongs heap new None m op reply is none performs belongs = tt
still_belongs heap new (Some c) m op reply is none performs belongs = (open_left heap new c m op reply is belongs none performs).1

pub performed : (heap new : HeapWords) (o : Option CollectionWords) (m : ℕ) (op : Op) (reply : Reply) → IsHeap heap → ¬ WritesField op → Performs heap m op reply new → BelongsIfOpen heap o
    → mutate (state_of heap (option_map collection_in o)) m op ≡ (reply, state_of new (option_map collection_in o))
performed heap new None m op reply is none performs belongs = idle_left heap new m op reply is performs
performed heap new (Some c) m op reply is none performs belongs = (open_left heap new c m op reply is belongs none performs).0

pub mutated : (epoch : ℕ) (heap new : HeapWords) (o : Option CollectionWords) (m : ℕ) (op : Op) (reply : Reply) → IsHeap heap → ¬ WritesField op → Performs heap m op reply new → Fits epoch heap o
    → mutate (state_of heap (option_map collection_in o)) m op ≡ (reply, state_of new (option_map collection_in o))
mutated epoch heap new o m op reply is none performs fits = performed heap new o m op reply is none performs (it_belongs epoch heap o fits)

-- the same, of a state that is known by its own name
pub said : (s : State) (epoch : ℕ) (heap new : HeapWords) (o : Option CollectionWords) (m : ℕ) (op : Op) (reply : Reply) → state_of heap (option_map collection_in o) ≡ s → Fits epoch heap o → IsHeap heap → ¬ WritesField op → Performs heap m op reply new
    → mutate s m op ≡ (reply, state_of new (option_map collection_in o))
said s epoch heap new o m op reply is fits sound none performs = subst (λ (t : State). mutate t m op ≡ (reply, state_of new (option_map collection_in o))) is (mutated epoch heap new o m op reply sound none performs fits)

-- the place of the slot that a command sets, if it sets one, is below those of the extra roots
abbrev pub SetsSlot : Op → Type 0
SetsSlot (ops.New d kind len) = d.index < 16
SetsSlot (ops.NewRaw d kind len) = d.index < 16
SetsSlot (ops.Num d n) = d.index < 16
SetsSlot (ops.Nil d) = d.index < 16
SetsSlot (ops.Move d t) = d.index < 16
SetsSlot (ops.Get d t i) = d.index < 16
SetsSlot (ops.Put t i u) = ⊥
SetsSlot (ops.Same t u) = ⊥
SetsSlot (ops.Look t) = ⊥

sets_below : (mutators m : ℕ) (op : Op) → m < mutators → SetsSlot op → WritesBelow (roots_of mutators) m op
sets_below mutators m op less low = grind (arith, common_steps, slot_below)

-- while no collection is open, every command changes only the heap
pub idle_mutated : (epoch : ℕ) (heap new : HeapWords) (o : Option CollectionWords) (m : ℕ) (op : Op) (reply : Reply) → IsHeap heap → ((c : CollectionWords) → o ≡ Some c → ⊥) → Performs heap m op reply new → Fits epoch heap o
    → (mutate (state_of heap (option_map collection_in o)) m op ≡ (reply, state_of new (option_map collection_in o))) × Fits epoch new o
idle_mutated epoch heap new o m op reply is none performs fits = search (rules, idle_left, still_unlinked)
