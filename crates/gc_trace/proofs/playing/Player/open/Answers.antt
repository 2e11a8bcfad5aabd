-- A heap that was opened with numbers in range is in a well-formed state.
use Rattle.std.proofs.Common.{◌≤◌, sym, subst, arith}
use Rattle.gc_model.specs.Belonging.{IsState}
use Rattle.gc_trace.proofs.playing.Player.open.Goals as goal

pub returns-clause-sound : goal.returns-clause-sound
returns-clause-sound c =
    let high : c.args.size ≤ 1048576 = c.requires.high in
    subst IsState (sym c.in_ok-heap.ensures.core) (c.states_stay.ensures.opening c.args.size c.args.mutators c.requires.low (omega arith))
