-- In a well-formed state a new space that is large enough has room for all replicas, and a run only reaches such states. Each object has at most one
-- replica, which no step removes.
use Rattle.gc_model.specs.Passing.{AlwaysHasRoom}
use Rattle.gc_model.proofs.Progress.{ends_grow, ends_within}
use Rattle.gc_model.proofs.Room.{has_room}
use Rattle.gc_model.proofs.StateLaws.{in_runs}
use Rattle.gc_model.proofs.laws.room_suffices.Goals as goal

pub returns : goal.returns
returns c = record { states = has_room; runs = in_runs AlwaysHasRoom has_room; within = ends_within; grows = ends_grow }
