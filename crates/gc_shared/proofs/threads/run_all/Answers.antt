-- The last seat is the collector's and the others are the mutators', so all that ended have played their scripts and turns.
use Rattle.std.proofs.Common.{◌≡◌, length, map, ap, vec_len}
use Rattle.std.specs.List.{range_with_len}
use Rattle.gc_shared.specs.Seats.{SeatValue, fresh}
use Rattle.gc_shared.specs.Internal.Scripts.{HasTurned, HavePlayed}
use Rattle.gc_shared.proofs.Players.{split_last, ended}
use Rattle.gc_shared.proofs.threads.run_all.Goals as goal
use Rattle.gc_shared.proofs.threads.run_all.Goals.{In-Some}

split : (g : _) (c : In-Some g) → (c.pop.new.self.items ≡ map (fresh (length c.args.scripts.now)) (range_with_len 0 (length c.args.scripts.now))) × (c.in-Some.last ≡ fresh (length c.args.scripts.now) (length c.args.scripts.now))
split g c = split_last (fresh (length c.args.scripts.now)) (length c.args.scripts.now) c.args.seats.items c.pop.new.self.items c.in-Some.last (vec_len c.args.seats) c.args.seats.ok.0 c.requires c.pop.ensures.rest c.in-Some.ensures.value

pub start_players-requires-clause-seats : goal.start_players-requires-clause-seats
start_players-requires-clause-seats g c κs within = (split g (goal.at.start_players-requires-clause-seats g c).In-Some).0

pub start_collector-requires-after_bounds : goal.start_collector-requires-after_bounds
start_collector-requires-after_bounds g c κs within = ap (λ (h : SeatValue). h.receipts) (split g (goal.at.start_collector-requires-after_bounds g c).In-Some).1

pub returns : goal.returns
returns g c =
    let s = split g (goal.at.returns g c).In-Some in
    let n = length c.args.scripts.now in
    let count = c.in-Ok.ensures.all in
    let played : HavePlayed c.args.scripts.now n c.join_players-played.new.back.items = rw count at c.in_ok-played.ensures.ok in
    let started = c.in-Ok-start_collector.ensures in
    let turned : HasTurned n c.args.turns c.in_ok-turned.field-0 = rw (started.0, started.1, s.1) at c.in_ok-turned.ensures in
    rw c.push_reserved.ensures.items (ended c.args.scripts.now c.args.turns c.join_players-played.new.back.items c.in_ok-turned.field-0 played turned)
