-- With the numbers that are left, all are written. The log has room for them.
use Rattle.std.proofs.Common.{◌≡◌, ◌≤◌, ◌+◌, ◌-◌, length, drop, map}
use Rattle.gc_heap.specs.Heap.{HeapWords}
use Rattle.gc_concurrent.specs.Bulk.{PutsEach}
use Rattle.gc_concurrent.specs.Holders.{beginning_of, cells_of, heap_in, log_length, moves_in}
use Rattle.gc_concurrent.specs.Internal.LogRoom.{HasLogRoom}
use Rattle.gc_graph.specs.Graph.{Num}
use Rattle.gc_concurrent.proofs.commands.Commander.write_each.Given as goal

abbrev pub invariant-loop-k : goal.invariant-loop-k
invariant-loop-k l = record {
  left : (new : HeapWords) → PutsEach l.s (l.first + l.k) (map Num (drop l.k l.numbers)) (heap_in l.self) new → PutsEach l.s l.first (map Num l.numbers) (heap_in l.fn.self) new;
  room : HasLogRoom (length l.numbers - l.k) l.self;
  log : log_length l.self ≤ log_length l.fn.self + l.k;
  cells : cells_of l.self ≡ cells_of l.fn.self;
  moves : moves_in l.self ≡ moves_in l.fn.self;
  begun : beginning_of l.self ≡ beginning_of l.fn.self;
  roots : length l.self.roots.items ≡ length l.fn.self.roots.items;
}
