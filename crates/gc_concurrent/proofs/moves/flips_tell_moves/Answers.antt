-- A flip counts one more, and makes paths agree.
use Rattle.gc_concurrent.proofs.Moving.{path_moves, stays_where_counted}
use Rattle.gc_concurrent.proofs.moves.flips_tell_moves.Goals as goal

pub returns : goal.returns
returns c = record { same = stays_where_counted; paths = path_moves }
