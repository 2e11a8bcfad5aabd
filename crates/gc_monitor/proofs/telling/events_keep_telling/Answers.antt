-- Each event, from an opening to a flip or a drop, changes the tables so that they tell the truth of the same words.
use Rattle.gc_monitor.proofs.ToldTruth.{opening_tells, made_tells, saw_tells, placed_tells, placed_by_tells, looked_tells, applied_tells, wrote_tells, flipped_tells, dropped_tells}
use Rattle.gc_monitor.proofs.telling.events_keep_telling.Goals as goal

pub returns : goal.returns
returns c = record {
  opening = opening_tells;
  made = made_tells;
  saw = saw_tells;
  placed = placed_tells;
  placed_by = placed_by_tells;
  looked = looked_tells;
  applied = applied_tells;
  wrote = wrote_tells;
  flipped = flipped_tells;
  dropped = dropped_tells;
}
