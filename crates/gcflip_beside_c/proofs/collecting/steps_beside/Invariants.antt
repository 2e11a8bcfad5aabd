-- So many steps were performed. Each left the same outline, and was one step less ahead.
use Rattle.std.proofs.Common.{◌≡◌, ◌+◌, ◌≤◌}
use Rattle.gc_concurrent.specs.Holders.{known_to}
use Rattle.gcflip_beside_c.specs.Stages.{outline, ahead}
use Rattle.gcflip_beside_c.specs.HandleStage.{works}
use Rattle.gcflip_beside_c.proofs.collecting.steps_beside.Given as goal

abbrev pub invariant-loop-k : goal.invariant-loop-k
invariant-loop-k l = record {
  stays : outline (works (known_to l.collector.copier)) ≡ outline (works (known_to l.fn.collector.copier));
  turns : l.collector.turns ≡ l.fn.collector.turns;
  nearer : ahead (works (known_to l.collector.copier)) + l.k ≤ ahead (works (known_to l.fn.collector.copier));
}
