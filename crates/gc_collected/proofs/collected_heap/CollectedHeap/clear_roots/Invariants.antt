-- The roots so far are nil, and making the rest nil makes all nil.
use Rattle.std.proofs.Common.{◌≡◌, ◌≤◌, ◌-◌, length}
use Rattle.gc_roots.specs.Twins.{AskForLooks}
use Rattle.gc_collected.specs.Values.{clear_roots_step}
use Rattle.gc_collected.proofs.collected_heap.CollectedHeap.clear_roots.Given as goal

abbrev pub invariant-loop-p : goal.invariant-loop-p
invariant-loop-p l = record {
  rest : clear_roots_step l.self.core l.p (l.to - l.p) ≡ clear_roots_step l.fn.self.core l.from (l.to - l.from);
  roots : length l.self.core.heap.graph.roots ≡ length l.fn.self.core.heap.graph.roots;
  mutators : l.self.core.mutators ≡ l.fn.self.core.mutators;
  beside : l.self.beside ≡ l.fn.self.beside;
  looks : AskForLooks (l.p - l.from) l.fn.self.roots_left l.self.roots_left;
  within : l.p - l.from ≤ l.to - l.from;
}
