-- The one invariant of a heap that a monitor follows: the monitor is not lost, it goes along, and its tables know the heap.
use Rattle.std.specs.Prelude.{IsFalse}
use Rattle.gc_model.specs.State.{State}
use Rattle.gc_monitor.specs.Tables.{Tables, watch_of}
use Rattle.gc_collected.specs.Internal.Beside.{GoesBeside}
use Rattle.gc_collected.specs.Internal.Knows.{KnowsAll}

pub record Follows (s : State) (t : Tables) : Type 0 where
  pub found : IsFalse t.lost
  pub goes : GoesBeside s s.collection (watch_of t)
  pub knows : KnowsAll s t
