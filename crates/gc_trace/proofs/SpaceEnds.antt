-- The space of a heap has the end and the free words of the heap's state.
use Rattle.std.proofs.lemmas.Grind.{common_steps}
use Rattle.std.proofs.Common.{◌≡◌, arith}
use Rattle.gc_words.specs.Space.{free_in, end_of}
use Rattle.gc_heap.specs.Heap.{HeapWords, IsHeap, graph_in, roomy_in}
use Rattle.gc_model.specs.State.{State, heap_end}
use Rattle.gc_model.specs.Belonging.{IsSpaceGraph, IsState}
use Rattle.gc_model.proofs.Public.{laid_end_is}

pub same_end : (heap : HeapWords) (s : State) → IsHeap heap → IsSpaceGraph heap.space.size (free_in heap.space) (graph_in heap) → IsState s → roomy_in heap ≡ s.heap → end_of heap.space ≡ heap_end s
same_end heap s sound graph ok same = grind (arith, common_steps, laid_end_is)
