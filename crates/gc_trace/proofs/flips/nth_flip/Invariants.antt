-- The flip that is asked for is the one that comes in the rest of the events, after those that are still to skip.
use Rattle.std.proofs.Common.{◌≡◌, None}
use Rattle.gc_graph.specs.Limits.{most_words}
use Rattle.gc_model.specs.Belonging.{IsState}
use Rattle.gc_model.specs.Runs.{HasSizesWithin}
use Rattle.gc_trace.specs.Flips.{nth_flip}
use Rattle.gc_trace.specs.Views.{recording}
use Rattle.gc_trace.proofs.FlipPairs.{flips_from}
use Rattle.gc_trace.proofs.flips.nth_flip.Given as goal

abbrev pub invariant-loop-event : goal.invariant-loop-event
invariant-loop-event l = record {
  mutators : l.heap.core.mutators ≡ l.trace.mutators;
  sound : IsState l.heap.core;
  small : HasSizesWithin most_words l.heap.core;
  taken : l.heap.beside.pair ≡ None;
  flips : flips_from l.heap.core l.trace.events.items l.event-index l.before ≡ nth_flip l.n (recording l.trace);
}
