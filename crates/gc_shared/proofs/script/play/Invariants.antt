-- The seat's receipts are of the script's commands so far, in order, and its number has not changed.
use Rattle.std.proofs.Common.{◌≡◌, map, take}
use Rattle.gc_model.specs.declared.event.Event.TheVariants.{Mutate}
use Rattle.gc_shared.specs.Internal.Scripts.{events_on}
use Rattle.gc_shared.proofs.script.play.Given as goal

abbrev pub invariant-loop-n : goal.invariant-loop-n
invariant-loop-n g l = record {
  same : l.seat.number ≡ l.fn.seat.number;
  events : events_on l.seat ≡ map (Mutate l.fn.seat.number) (take l.n l.script);
}
