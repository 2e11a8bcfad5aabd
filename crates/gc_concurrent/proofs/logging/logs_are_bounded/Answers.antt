-- What is written bounds the log, and the log the steps.
use Rattle.gc_concurrent.proofs.Bounding.{grows, taken_steps, steps_below}
use Rattle.gc_concurrent.proofs.logging.logs_are_bounded.Goals as goal

pub returns : goal.returns
returns c = record { bound = grows; taken = taken_steps; steps = steps_below }
