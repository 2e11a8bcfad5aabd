-- The threads so far are to play the first scripts, and the seats that are left are those of the other scripts, in order.
use Rattle.std.proofs.Common.{◌≡◌, ◌+◌, ◌≤◌, length, map, vec_len, vec_capacity}
use Rattle.std.specs.List.{range_with_len}
use Rattle.std.specs.Vec.Iter.{into_iter_items, into_iter_len}
use Rattle.gc_shared.specs.Seats.{fresh}
use Rattle.gc_shared.specs.Internal.Players.{AreToPlay}
use Rattle.gc_shared.proofs.threads.start_players.Given as goal

abbrev pub invariant-loop-seat : goal.invariant-loop-seat
invariant-loop-seat g l = record {
  count : vec_len l.players + into_iter_len l.seat-iterator ≡ length l.scripts;
  rest : into_iter_items l.seat-iterator ≡ map (fresh (length l.scripts)) (range_with_len (vec_len l.players) (into_iter_len l.seat-iterator));
  room : length l.scripts ≤ vec_capacity l.players;
  each : AreToPlay l.scripts l.players.items;
}
