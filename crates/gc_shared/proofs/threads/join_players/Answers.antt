-- A turn joins the next thread and keeps its seat, which has performed its script, or keeps the first fault.
use Rattle.std.proofs.Common.{◌≡◌, ℕ, ◌+◌, ◌-◌, ◌≤◌, List, arith, subst, vec_len}
use Rattle.std.specs.Vec.Iter.{into_iter_items, into_iter_len}
use Rattle.gc_shared.specs.Scripts.{script_at}
use Rattle.gc_shared.specs.Internal.Scripts.{HasPerformed}
use Rattle.gc_shared.specs.Internal.Players.{Player, AreNext, IsToPlay}
use Rattle.gc_shared.proofs.Players.{next_player, HavePlayed-more, on_ok, on_no_ok}
use Rattle.gc_shared.proofs.threads.join_players.Goals as goal
use Rattle.gc_shared.proofs.threads.join_players.Goals.{After-join}

done : (g : _) → After-join g → ℕ
done g c = vec_len c.args.players - into_iter_len c.loop-player.player-iterator

-- the thread of this turn, and the threads after it
turn : (g : _) (c : After-join g) → IsToPlay c.args.scripts.now (done g c) c.in-Some.player × AreNext c.args.scripts.now (done g c + 1) (into_iter_items c.next.new.self)
unfolding done
turn g c =
    let all : List Player → Type 0 = λ hs. AreNext c.args.scripts.now (vec_len c.args.players - into_iter_len c.loop-player.player-iterator) hs in
    next_player c.args.scripts.now (vec_len c.args.players - into_iter_len c.loop-player.player-iterator) c.in-Some.player (into_iter_items c.next.new.self) (subst all c.in-Some.ensures.steps.0 c.loop-player.invariant.rest)

-- the state after a turn, whatever the thread returned
record Turned (g : _) (c : After-join g) : Type 0 where
  next : vec_len c.args.players - into_iter_len c.next.new.self ≡ done g c + 1
  left : into_iter_len c.next.new.self ≤ vec_len c.args.players
  back : vec_len c.loop-player.back + 1 ≤ vec_len c.args.players - into_iter_len c.next.new.self
  rest : AreNext c.args.scripts.now (vec_len c.args.players - into_iter_len c.next.new.self) (into_iter_items c.next.new.self)

turned : (g : _) (c : After-join g) → Turned g c
unfolding done
turned g c =
    let was = c.loop-player.invariant in
    let step = c.in-Some.ensures.steps in
    let next : vec_len c.args.players - into_iter_len c.next.new.self ≡ vec_len c.args.players - into_iter_len c.loop-player.player-iterator + 1 = omega arith in
    record { next = next; left = omega arith; back = omega arith; rest = rw next (turn g c).1 }

pub loop-player-preserved-in-Ok : goal.loop-player-preserved-in-Ok
unfolding done
loop-player-preserved-in-Ok g c =
    let was = c.loop-player.invariant in
    let a = (goal.at.loop-player-preserved-in-Ok g c).After-join in
    let t = turned g a in
    let mine = (turn g a).0 in
    let n = vec_len c.args.players - into_iter_len c.loop-player.player-iterator in
    let played : HasPerformed n (script_at c.args.scripts.now n) c.in-Ok.seat = rw (mine.0, mine.1) at c.in-Ok.ensures in
    record {
      left = t.left;
      rest = t.rest;
      back = rw c.push_reserved.ensures.len t.back;
      room = rw c.push_reserved.ensures.capacity was.room;
      played = rw (c.push_reserved.ensures.items, t.next) (on_ok c.loop-player.fault _ _ (λ all. HavePlayed-more c.args.scripts.now n c.loop-player.back.items c.in-Ok.seat all played) was.played);
    }

pub loop-player-preserved-then-is_ok : goal.loop-player-preserved-then-is_ok
loop-player-preserved-then-is_ok g c =
    let t = turned g (goal.at.loop-player-preserved-then-is_ok g c).After-join in
    record { left = t.left; rest = t.rest; back = omega (arith, t.back); room = c.loop-player.invariant.room; played = tt }

pub loop-player-preserved : goal.loop-player-preserved
loop-player-preserved g c =
    let t = turned g (goal.at.loop-player-preserved g c).After-join in
    record { left = t.left; rest = t.rest; back = omega (arith, t.back); room = c.loop-player.invariant.room; played = on_no_ok c.loop-player.fault _ c.if-is_ok.ensures.value }
