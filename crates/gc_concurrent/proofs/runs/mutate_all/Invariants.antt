-- Each command so far has a reply, and the machine from which the rest are those of the heap as it stands.
use Rattle.std.proofs.Common.{◌≡◌, length, drop}
use Rattle.gc_heap.specs.Heap.{graph_in}
use Rattle.gc_concurrent.specs.Holders.{heap_in}
use Rattle.gc_concurrent.specs.Law.{by_one, HasNoFull}
use Rattle.gc_concurrent.proofs.Running.{Going}
use Rattle.gc_concurrent.proofs.runs.mutate_all.Given as goal

abbrev pub invariant-loop-op : goal.invariant-loop-op
invariant-loop-op g l = record {
  count : length l.replies.items ≡ l.op-index;
  fine : HasNoFull l.replies.items;
  going : Going (graph_in (heap_in l.fn.runner.commander)) (by_one l.ops) (graph_in (heap_in l.runner.commander)) (by_one (drop l.op-index l.ops)) l.replies.items;
}
