-- So many steps were performed beside a mutator that is asked to stop. Each left the same outline, and was one step less ahead.
use Rattle.std.proofs.Common.{◌≡◌, ◌+◌, ◌≤◌}
use Rattle.gc_concurrent.specs.Holders.{known_to}
use Rattle.gcflip_beside_c.specs.Stages.{outline, ahead}
use Rattle.gcflip_beside_c.specs.HandleStage.{asks}
use Rattle.gcflip_beside_c.proofs.collecting.steps_asking.Given as goal

abbrev pub invariant-loop-k : goal.invariant-loop-k
invariant-loop-k l = record {
  stays : outline (asks (known_to l.asking.copier)) ≡ outline (asks (known_to l.fn.asking.copier));
  turns : l.asking.turns ≡ l.fn.asking.turns;
  nearer : ahead (asks (known_to l.asking.copier)) + l.k ≤ ahead (asks (known_to l.fn.asking.copier));
}
