-- So many steps were performed while the mutator waits. Each left the same outline, and was one step less ahead.
use Rattle.std.proofs.Common.{◌≡◌, ◌+◌, ◌≤◌}
use Rattle.gc_concurrent.specs.Holders.{beginning_held, heap_held, known_to}
use Rattle.gcflip_beside_c.specs.Stages.{outline, HasRootsPlaced, ahead}
use Rattle.gcflip_beside_c.specs.HandleStage.{holds}
use Rattle.gcflip_beside_c.proofs.collecting.steps_holding.Given as goal

abbrev pub invariant-loop-k : goal.invariant-loop-k
invariant-loop-k l = record {
  stays : outline (holds (known_to l.holding.held.copier) (heap_held l.holding.held)) ≡ outline (holds (known_to l.fn.holding.held.copier) (heap_held l.fn.holding.held));
  turns : l.holding.turns ≡ l.fn.holding.turns;
  begun : beginning_held l.holding.held ≡ beginning_held l.fn.holding.held;
  rooted : HasRootsPlaced (holds (known_to l.fn.holding.held.copier) (heap_held l.fn.holding.held)) → HasRootsPlaced (holds (known_to l.holding.held.copier) (heap_held l.holding.held));
  nearer : ahead (holds (known_to l.holding.held.copier) (heap_held l.holding.held)) + l.k ≤ ahead (holds (known_to l.fn.holding.held.copier) (heap_held l.fn.holding.held));
}
