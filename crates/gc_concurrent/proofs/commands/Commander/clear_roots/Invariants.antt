-- With the roots that are left, all are cleared.
use Rattle.std.proofs.Common.{◌≡◌, ◌-◌, length}
use Rattle.gc_heap.specs.Heap.{HeapWords}
use Rattle.gc_concurrent.specs.Bulk.{clear_commands, PerformsEach}
use Rattle.gc_concurrent.specs.Holders.{beginning_of, cells_of, heap_in, log_length, moves_in}
use Rattle.gc_concurrent.proofs.commands.Commander.clear_roots.Given as goal

abbrev pub invariant-loop-p : goal.invariant-loop-p
invariant-loop-p l = record {
  left : (new : HeapWords) → PerformsEach (clear_commands l.p (l.to - l.p)) (heap_in l.self) new → PerformsEach (clear_commands l.from (l.to - l.from)) (heap_in l.fn.self) new;
  log : log_length l.self ≡ log_length l.fn.self;
  cells : cells_of l.self ≡ cells_of l.fn.self;
  moves : moves_in l.self ≡ moves_in l.fn.self;
  begun : beginning_of l.self ≡ beginning_of l.fn.self;
  roots : length l.self.roots.items ≡ length l.fn.self.roots.items;
}
