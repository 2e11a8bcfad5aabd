-- Commands that the mutators' heap performs one after the other, and whose fields are logged together afterwards.
use Rattle.std.specs.Prelude.{◌≡◌, ℕ, zero, suc, List, [], ◌∷◌, ◌++◌, Option, Some, None, ⊤}
use Rattle.gc_graph.specs.Slots.{SlotName}
use Rattle.gc_graph.specs.declared.command.Op.{Op}
use Rattle.gc_graph.specs.declared.command.Op.TheVariants.{Put}
use Rattle.gc_graph.specs.declared.reply.Reply.{Reply}
use Rattle.gc_heap.specs.Commands.{Performs}
use Rattle.gc_heap.specs.Heap.{HeapWords, IsHeap, graph_in}
use Rattle.gc_model.specs.State.{State}
use Rattle.gc_model.specs.Steps.{log_at, mutate, with_log, written}
use Rattle.gc_copy.specs.Words.{CollectionWords, collection_in}

-- the state after these commands of mutator m
abbrev pub mutate_all : State → ℕ → List Op → State
mutate_all s m [] = s
mutate_all s m (op ∷ ops) = mutate_all (mutate s m op).1 m ops

-- the commands lead the heap alone from the old one to the new one, and write these fields
abbrev pub PerformsAll : HeapWords → ℕ → List Op → List (ℕ × ℕ) → HeapWords → Type 0
PerformsAll old m [] fields new = (old ≡ new) × (fields ≡ [])
PerformsAll old m (op ∷ ops) fields new = (next : HeapWords) × (reply : Reply) × (rest : List (ℕ × ℕ)) × Performs old m op reply next × IsHeap next
    × (fields ≡ written (graph_in old) m op reply ++ rest) × PerformsAll next m ops rest new

-- these fields are appended to mutator m's log
pub record Logs (old : CollectionWords) (m : ℕ) (fields : List (ℕ × ℕ)) (new : CollectionWords) : Type 0 where
  pub collection : collection_in new ≡ with_log (collection_in old) m (log_at (collection_in old) m ++ fields)
  pub epoch : new.epoch ≡ old.epoch

-- the same, if a collection is open
abbrev pub LogsIfOpen : Option CollectionWords → ℕ → List (ℕ × ℕ) → Option CollectionWords → Type 0
LogsIfOpen None m fields None = ⊤
LogsIfOpen (Some old) m fields (Some new) = Logs old m fields new
LogsIfOpen old m fields new = ⊥

-- so many fields of the object at a, from field i on
abbrev pub fields_from : ℕ → ℕ → ℕ → List (ℕ × ℕ)
fields_from a i zero = []
fields_from a i (suc n) = (a, i) ∷ fields_from a (suc i) n

-- a `Put` of each of these slots, into the fields from i on
abbrev pub puts : SlotName → ℕ → List SlotName → List Op
puts d i [] = []
puts d i (t ∷ rest) = Put d i t ∷ puts d (suc i) rest
