-- A call that finds no more room than it wants performs what is left, and little is left where little room is.
use Rattle.gc_pace.proofs.Waits.{short_wait}
use Rattle.gc_pace.proofs.laws.waits_are_short.Goals as goal

pub returns : goal.returns
returns c = short_wait
