-- The extra roots so far are nil, and making the rest nil makes all nil.
use Rattle.std.proofs.Common.{◌≡◌, ◌≤◌, ◌-◌}
use Rattle.gc_model.specs.State.{extra_roots_of}
use Rattle.gc_roots.specs.Twins.{AskForLooks}
use Rattle.gc_collected.specs.ExtraRoots.{clear_step}
use Rattle.gc_collected.proofs.collected_heap.CollectedHeap.clear.Given as goal

abbrev pub invariant-loop-k : goal.invariant-loop-k
invariant-loop-k l = record {
  rest : clear_step l.self.core l.k (l.to - l.k) ≡ clear_step l.fn.self.core l.from (l.to - l.from);
  extra : extra_roots_of l.self.core ≡ extra_roots_of l.fn.self.core;
  mutators : l.self.core.mutators ≡ l.fn.self.core.mutators;
  beside : l.self.beside ≡ l.fn.self.beside;
  looks : AskForLooks (l.k - l.from) l.fn.self.roots_left l.self.roots_left;
  within : l.k - l.from ≤ l.to - l.from;
}
