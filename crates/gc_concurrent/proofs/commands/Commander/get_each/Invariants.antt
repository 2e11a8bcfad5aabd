-- With the fields that are left, all are read.
use Rattle.std.proofs.Common.{◌≡◌, ◌+◌, ◌-◌, length}
use Rattle.gc_heap.specs.Heap.{HeapWords}
use Rattle.gc_concurrent.specs.Bulk.{get_commands, PerformsEach}
use Rattle.gc_concurrent.specs.Holders.{beginning_of, cells_of, heap_in, log_length, moves_in}
use Rattle.gc_concurrent.proofs.commands.Commander.get_each.Given as goal

abbrev pub invariant-loop-k : goal.invariant-loop-k
invariant-loop-k l = record {
  left : (new : HeapWords) → PerformsEach (get_commands (l.first + l.k) l.s l.k (l.count - l.k)) (heap_in l.self) new → PerformsEach (get_commands l.first l.s 0 l.count) (heap_in l.fn.self) new;
  log : log_length l.self ≡ log_length l.fn.self;
  cells : cells_of l.self ≡ cells_of l.fn.self;
  moves : moves_in l.self ≡ moves_in l.fn.self;
  begun : beginning_of l.self ≡ beginning_of l.fn.self;
  roots : length l.self.roots.items ≡ length l.fn.self.roots.items;
}
