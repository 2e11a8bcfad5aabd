-- The roots so far have their fields, and setting the rest sets all.
use Rattle.std.proofs.Common.{◌≡◌, ◌≤◌, ◌+◌, ◌-◌, length}
use Rattle.gc_collected.specs.Spreading.{AskForRow, gets_step}
use Rattle.gc_collected.proofs.collected_heap.CollectedHeap.get_each.Given as goal

abbrev pub invariant-loop-k : goal.invariant-loop-k
invariant-loop-k l = record {
  rest : gets_step l.self.core (l.first + l.k) l.s l.k (l.count - l.k) ≡ gets_step l.fn.self.core l.first l.s 0 l.count;
  roots : length l.self.core.heap.graph.roots ≡ length l.fn.self.core.heap.graph.roots;
  mutators : l.self.core.mutators ≡ l.fn.self.core.mutators;
  beside : l.self.beside ≡ l.fn.self.beside;
  looks : AskForRow l.first l.k l.fn.self.roots_left l.self.roots_left;
  within : l.k ≤ l.count;
}
