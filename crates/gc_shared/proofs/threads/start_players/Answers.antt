-- A turn starts the thread of the next seat, with the script that has the seat's number.
use Rattle.std.proofs.lemmas.Grind.{common_steps}
use Rattle.std.proofs.Common.{◌≡◌, ◌+◌, arith, sym, ap, ◌∙◌, length, vec_len, map}
use Rattle.std.proofs.lemmas.List.FromFn.{length-map-range_with_len}
use Rattle.std.specs.List.{range_with_len}
use Rattle.std.specs.Vec.Iter.{into_iter_items, into_iter_len}
use Rattle.gc_shared.specs.Seats.{SeatValue, fresh}
use Rattle.gc_shared.proofs.Players.{next_seat, AreToPlay-more, script_here}
use Rattle.gc_shared.proofs.threads.start_players.Goals as goal
use Rattle.gc_shared.proofs.threads.start_players.Goals.{After-as_slice-script}

pub loop-seat-init : goal.loop-seat-init
loop-seat-init g c = grind (arith, common_steps, length-map-range_with_len)

-- the seat of this turn, and the seats after it
turn : (g : _) (c : After-as_slice-script g) → (c.in-Some.seat ≡ fresh (length c.args.scripts.now) (vec_len c.loop-seat.players)) × (into_iter_items c.next.new.self ≡ map (fresh (length c.args.scripts.now)) (range_with_len (vec_len c.loop-seat.players + 1) (into_iter_len c.next.new.self)))
turn g c = grind (arith, common_steps, vec_len, next_seat)

pub start_player-requires-after_bounds : goal.start_player-requires-after_bounds
start_player-requires-after_bounds g c κs within = ap (λ (h : SeatValue). h.receipts) (turn g c).0

pub loop-seat-preserved : goal.loop-seat-preserved
loop-seat-preserved g c =
    let was = c.loop-seat.invariant in
    let step = c.in-Some.ensures.steps in
    let here = turn g (goal.at.loop-seat-preserved g c).After-as_slice-script in
    let done = vec_len c.loop-seat.players in
    let len : length c.loop-seat.players.items ≡ done = sym c.loop-seat.players.ok.0 in
    let started = c.in_ok-player.ensures in
    record {
      count = omega arith;
      rest = rw c.push_reserved.ensures.len here.1;
      room = rw c.push_reserved.ensures.capacity was.room;
      each = rw c.push_reserved.ensures.items (AreToPlay-more c.args.scripts.now c.loop-seat.players.items c.in_ok-player.player was.each (
        started.0 ∙ ap (λ (h : SeatValue). h.number) here.0 ∙ sym len,
        started.1 ∙ c.as_slice-script.ensures.value ∙ rw (len, ← c.len.ensures) (script_here c.args.scripts.now c.len.result c.index-scripts-len.result (omega arith) c.index-scripts-len.is),
      ));
    }
