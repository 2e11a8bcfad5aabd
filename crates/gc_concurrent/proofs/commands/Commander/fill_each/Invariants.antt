-- With the fields that are left, all are filled. The log has room for them.
use Rattle.std.proofs.Common.{◌≡◌, ◌≤◌, ◌+◌, ◌-◌, length}
use Rattle.gc_heap.specs.Heap.{HeapWords}
use Rattle.gc_concurrent.specs.Bulk.{fill_commands, PerformsEach}
use Rattle.gc_concurrent.specs.Holders.{beginning_of, cells_of, heap_in, log_length, moves_in}
use Rattle.gc_concurrent.specs.Internal.LogRoom.{HasLogRoom}
use Rattle.gc_concurrent.proofs.commands.Commander.fill_each.Given as goal

abbrev pub invariant-loop-k : goal.invariant-loop-k
invariant-loop-k l = record {
  left : (new : HeapWords) → PerformsEach (fill_commands l.s (l.from + l.k) (l.count - l.k) l.t) (heap_in l.self) new → PerformsEach (fill_commands l.s l.from l.count l.t) (heap_in l.fn.self) new;
  room : HasLogRoom (l.count - l.k) l.self;
  log : log_length l.self ≤ log_length l.fn.self + l.k;
  cells : cells_of l.self ≡ cells_of l.fn.self;
  moves : moves_in l.self ≡ moves_in l.fn.self;
  begun : beginning_of l.self ≡ beginning_of l.fn.self;
  roots : length l.self.roots.items ≡ length l.fn.self.roots.items;
}
