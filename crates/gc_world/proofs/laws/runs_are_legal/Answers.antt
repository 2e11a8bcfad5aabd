-- The replies in a history are those of its run, which are legal.
use Rattle.gc_world.proofs.LegalHistories.{history_is_legal}
use Rattle.gc_world.proofs.laws.runs_are_legal.Goals as goal

pub returns : goal.returns
returns c = history_is_legal
