-- The threads that are left are those of the next scripts, and without a fault the seats so far have played the others.
use Rattle.std.proofs.Common.{◌-◌, ◌<◌, ◌≤◌, vec_len, vec_capacity, OnOk}
use Rattle.std.specs.Vec.Iter.{into_iter_items, into_iter_len}
use Rattle.gc_shared.specs.Internal.Scripts.{HavePlayed}
use Rattle.gc_shared.specs.Internal.Players.{AreNext}
use Rattle.gc_shared.proofs.threads.join_players.Given as goal

abbrev pub invariant-loop-player : goal.invariant-loop-player
invariant-loop-player g l =
    let left = into_iter_len l.player-iterator in let done = vec_len l.fn.players - left in record {
      left : left ≤ vec_len l.fn.players;
      rest : AreNext l.scripts done (into_iter_items l.player-iterator);
      back : vec_len l.back ≤ done;
      room : vec_len l.fn.players < vec_capacity l.back;
      played : OnOk l.fault (HavePlayed l.scripts done l.back.items);
    }
