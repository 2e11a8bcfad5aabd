-- A turn makes the run longer, after steps that were not enough, or takes looks in place of a step.
use Rattle.std.proofs.Common.{◌≡◌, inl, inr, ◌+◌, ◌≤◌, true, sym, ap, ◌∙◌, subst, arith}
use Rattle.gc_model.specs.declared.step.StepReply.{StepReply}
use Rattle.gc_copy.specs.declared.collection.stepping.StepRun.{StepRun}
use Rattle.gc_collected.specs.Collected.{Beside, Collected}
use Rattle.gc_pace.specs.Beside.{HaveRooms}
use Rattle.gc_pace.specs.Internal.Performed.{RanSteps, steps_in}
use Rattle.gc_pace.specs.Work.{goes_on, is_flip}
use Rattle.gc_pace.proofs.Performed.{few_more, further_lacked, further_rooms, joined_reply, joined_steps, more_units, quiet_so_far, run_further}
use Rattle.gc_pace.proofs.work.useful_steps.Goals as goal

pub overflow_add-done : goal.overflow_add-done
overflow_add-done g c = let looked = c.loop-units.invariant.looked in let seen = c.choose_step-looks.ensures.looks.less in grind (arith, looked, seen, c.roots_left.ensures, c.ranges)

pub returns-in-Err-clause-rooms : goal.returns-in-Err-clause-rooms
returns-in-Err-clause-rooms g c =
    let chosen = c.choose_step-looks.ensures in
    let was = c.loop-units.invariant in
    further_lacked (g.P.Performs.short c.args.performs.now) c.args.size c.args.heap.now c.loop-units.heap c.choose_step-looks.new.self c.perform.new.heap c.loop-units.done.run chosen.core chosen.beside was.done was.on
    (ap (λ (h : Collected). h.core) c.in-Err.ensures.refused) was.rooms c.in-Err.ensures.lacked

pub returns-in-Err-clause-looks : goal.returns-in-Err-clause-looks
returns-in-Err-clause-looks g c =
    let looked = c.loop-units.invariant.looked in
    let seen = c.choose_step-looks.ensures.looks.less in
    record { few = omega (arith, looked, seen); less = λ quiet. let left = c.in-Err.ensures.looked in omega (arith, looked, seen, left) }

pub returns-then-not-can_go_on-clause-done : goal.returns-then-not-can_go_on-clause-done
returns-then-not-can_go_on-clause-done g c =
    let chosen = c.choose_step-looks.ensures in
    let was = c.loop-units.invariant in
    let e = c.in-Ok.ensures in
    subst (RanSteps (g.P.Performs.short c.args.performs.now) c.args.size c.args.heap.now c.perform.new.heap) (sym c.joined.ensures)
    (run_further (g.P.Performs.short c.args.performs.now) c.args.size c.args.heap.now c.loop-units.heap c.choose_step-looks.new.self c.perform.new.heap c.loop-units.done.run chosen.core chosen.beside was.done was.on
    c.in-Ok.next e.run e.short e.former e.turns e.pair)

pub returns-then-not-can_go_on-clause-rooms : goal.returns-then-not-can_go_on-clause-rooms
returns-then-not-can_go_on-clause-rooms g c =
    let chosen = c.choose_step-looks.ensures in
    let was = c.loop-units.invariant in
    inl (subst (λ (run : StepRun). HaveRooms c.args.size c.args.heap.now.core c.args.heap.now.beside (is_flip run.reply) c.perform.new.heap.beside.rooms) (sym c.joined.ensures)
    (further_rooms (g.P.Performs.short c.args.performs.now) c.args.size c.args.heap.now c.loop-units.heap c.choose_step-looks.new.self c.perform.new.heap c.loop-units.done.run chosen.core chosen.beside was.done was.on
    c.in-Ok.next was.rooms c.in-Ok.ensures.rooms))

pub returns-then-has_enough-clause-done : goal.returns-then-has_enough-clause-done
returns-then-has_enough-clause-done g c =
    let chosen = c.choose_step-looks.ensures in
    let was = c.loop-units.invariant in
    let e = c.in-Ok.ensures in
    subst (RanSteps (g.P.Performs.short c.args.performs.now) c.args.size c.args.heap.now c.perform.new.heap) (sym c.joined.ensures)
    (run_further (g.P.Performs.short c.args.performs.now) c.args.size c.args.heap.now c.loop-units.heap c.choose_step-looks.new.self c.perform.new.heap c.loop-units.done.run chosen.core chosen.beside was.done was.on
    c.in-Ok.next e.run e.short e.former e.turns e.pair)

pub returns-then-has_enough-clause-rooms : goal.returns-then-has_enough-clause-rooms
returns-then-has_enough-clause-rooms g c =
    let chosen = c.choose_step-looks.ensures in
    let was = c.loop-units.invariant in
    inl (subst (λ (run : StepRun). HaveRooms c.args.size c.args.heap.now.core c.args.heap.now.beside (is_flip run.reply) c.perform.new.heap.beside.rooms) (sym c.joined.ensures)
    (further_rooms (g.P.Performs.short c.args.performs.now) c.args.size c.args.heap.now c.loop-units.heap c.choose_step-looks.new.self c.perform.new.heap c.loop-units.done.run chosen.core chosen.beside was.done was.on
    c.in-Ok.next was.rooms c.in-Ok.ensures.rooms))

pub returns-then-has_enough-clause-ended : goal.returns-then-has_enough-clause-ended
returns-then-has_enough-clause-ended g c =
    let reply : c.joined.result.reply ≡ c.in-Ok.next.reply = ap (λ (run : StepRun). run.reply) c.joined.ensures ∙ joined_reply c.loop-units.done.run c.in-Ok.next in
    inr (inr (subst (λ (r : StepReply). g.P.Performs.stops c.args.performs.now c.args.size c.perform.new.heap.core r) (sym reply) (c.has_enough.ensures.stops c.if-has_enough.true c.args.size)))

pub loop-units-preserved : goal.loop-units-preserved
loop-units-preserved g c =
    let chosen = c.choose_step-looks.ensures in
    let was = c.loop-units.invariant in
    let e = c.in-Ok.ensures in
    let reply : c.joined.result.reply ≡ c.in-Ok.next.reply = ap (λ (run : StepRun). run.reply) c.joined.ensures ∙ joined_reply c.loop-units.done.run c.in-Ok.next in
    let on : goes_on c.in-Ok.next.reply ≡ true = sym c.can_go_on.ensures ∙ c.if-not-can_go_on.false in
    let steps : c.joined.result.steps ≡ steps_in c.loop-units.done.run + c.in-Ok.next.steps = ap (λ (run : StepRun). run.steps) c.joined.ensures ∙ joined_steps c.loop-units.done.run c.in-Ok.next in
    record {
      done = subst (RanSteps (g.P.Performs.short c.args.performs.now) c.args.size c.args.heap.now c.perform.new.heap) (sym c.joined.ensures)
          (run_further (g.P.Performs.short c.args.performs.now) c.args.size c.args.heap.now c.loop-units.heap c.choose_step-looks.new.self c.perform.new.heap c.loop-units.done.run chosen.core chosen.beside was.done was.on
          c.in-Ok.next e.run e.short e.former e.turns e.pair);
      on = subst (λ (r : StepReply). (goes_on r ≡ true) × g.P.Performs.short c.args.performs.now c.perform.new.heap.core r) (sym reply) (on, c.has_enough.ensures.short c.if-has_enough.false);
      rooms = subst (λ (run : StepRun). HaveRooms c.args.size c.args.heap.now.core c.args.heap.now.beside (is_flip run.reply) c.perform.new.heap.beside.rooms) (sym c.joined.ensures)
          (further_rooms (g.P.Performs.short c.args.performs.now) c.args.size c.args.heap.now c.loop-units.heap c.choose_step-looks.new.self c.perform.new.heap c.loop-units.done.run chosen.core chosen.beside was.done was.on
          c.in-Ok.next was.rooms e.rooms);
      pair = e.pair ∙ ap (λ (b : Beside). b.pair) chosen.beside ∙ was.pair;
      looked = let left = e.looks (quiet_so_far c.in-Ok.next.reply on) in omega (arith, left, chosen.looks.less, was.looked);
      steps = omega (arith, steps, was.steps);
      units = more_units c.args.looks_as c.loop-units.units c.loop-units.done.looks c.choose_step-looks.result.looks (steps_in c.loop-units.done.run) c.in-Ok.next.steps c.joined.result.steps steps was.units;
      few = few_more c.args.looks_as c.loop-units.units c.in-Ok.next.steps c.loop-units.done.looks c.choose_step-looks.result.looks e.run.some (subst (λ n. c.choose_step-looks.result.looks ≤ n) c.looks_at_once-limit.ensures chosen.within) was.few;
      within = let fits = e.within in let room = c.loop-units-test.true in omega (arith, fits, room);
    }
