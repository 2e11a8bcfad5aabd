-- So far, the world's history is of the events before this one.
use Rattle.std.proofs.Common.{◌≡◌, take}
use Rattle.gc_world.specs.History.{events_of}
use Rattle.gc_trace.proofs.run.run_trace.Given as goal

abbrev pub invariant-loop-event : goal.invariant-loop-event
invariant-loop-event l = record {
  size : l.world.size ≡ l.trace.size;
  mutators : l.world.mutators ≡ l.trace.mutators;
  events : events_of l.world.entries ≡ take l.event-index l.trace.events.items;
}
