-- A row of originals holds a pair at the place of its replica, and an entry at the end of the row adds its pair behind the others.
use Rattle.gc_monitor.proofs.Origins.{told, placed, walked}
use Rattle.gc_monitor.proofs.laws.origins_tell_pairs.Goals as goal

pub returns : goal.returns
returns c = record { paired = told; placed = placed; walked = walked }
