-- A new space of words has room for all replicas, if it is as large as the old one.
use Rattle.std.proofs.Common.{◌≢◌, ◌≤◌, refl, ◌∙◌}
use Rattle.std.proofs.lemmas.List.{length-map}
use Rattle.gc_heap.specs.Heap.{HeapWords, IsHeap}
use Rattle.gc_model.specs.Steps.{collect}
use Rattle.gc_model.specs.declared.step.Step.{Step}
use Rattle.gc_model.specs.declared.step.StepReply.TheVariants.{NoRoom}
use Rattle.gc_copy.specs.Words.{CollectionWords, IsCollection, BelongsTo, collection_in, entries_of, open_state}
use Rattle.gc_model.proofs.Public.{opened_has_room}
use Rattle.gc_copy.proofs.Words.{heap_graph}

pub words_have_room : (heap : HeapWords) (c : CollectionWords) (step : Step) → IsHeap heap → IsCollection c → BelongsTo heap c → heap.space.size ≤ c.space.size → (collect (open_state heap c) step).0 ≢ NoRoom
words_have_room heap c step h k b same =
    opened_has_room (open_state heap c) (heap_graph heap h) (collection_in c)
    (record { belongs = b.belongs; size = k.space.size_high; logs = length-map c.logs entries_of ∙ b.logs }) refl same step
