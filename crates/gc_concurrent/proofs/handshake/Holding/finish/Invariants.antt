-- The mutator's heap is as it was, its roots' targets have replicas, and fewer and fewer steps are ahead.
use Rattle.std.proofs.Common.{◌≡◌, true}
use Rattle.gc_words.specs.Space.{end_of}
use Rattle.gc_concurrent.specs.Holders.{beginning_held, heap_held, known_to, roots_placed}
use Rattle.gc_concurrent.specs.Works.{KeepsBeginning}
use Rattle.gc_concurrent.specs.Nearing.{steps_ahead}
use Rattle.gc_concurrent.proofs.handshake.Holding.finish.Given as goal

abbrev pub invariant-loop-holding : goal.invariant-loop-holding
invariant-loop-holding g l = record {
  heap : heap_held l.holding.held ≡ heap_held l.fn.self.held;
  since : beginning_held l.holding.held ≡ beginning_held l.fn.self.held;
  turns : l.holding.turns ≡ l.fn.self.turns;
  rooted : roots_placed l.holding.held ≡ true;
  begun : KeepsBeginning (known_to l.fn.self.held.copier) (known_to l.holding.held.copier);
}

abbrev pub decreases-loop-holding : goal.decreases-loop-holding
decreases-loop-holding g l = steps_ahead (end_of (heap_held l.holding.held).space) (known_to l.holding.held.copier)
