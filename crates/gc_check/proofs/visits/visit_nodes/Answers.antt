-- A turn visits all that one more node refers to, and no visit becomes deeper than the next one can lead to.
use Rattle.gc_check.proofs.Meetings.{taken_few}
use Rattle.std.proofs.lemmas.Grind.{common_steps}
use Rattle.std.proofs.Common.{rules, ◌<◌, ◌≤◌, length, arith}
use Rattle.gc_check.proofs.Breadth.{one_more_visit, near_next}
use Rattle.gc_check.proofs.visits.visit_nodes.Goals as goal

pub overflow_cast-done : goal.overflow_cast-done
overflow_cast-done c = grind (arith, common_steps, taken_few)

pub loop-done-smaller : goal.loop-done-smaller
loop-done-smaller c = grind (arith, common_steps, taken_few)

pub loop-done-preserved : goal.loop-done-preserved
loop-done-preserved c =
    let image = c.args.starts.now in
    let before = c.loop-done.visits.list.items in
    let after = c.visit_references.new.visits.list.items in
    let inside : c.loop-done.done < length before = search rules in
    record {
      held = c.visit_references.ensures.held;
      near = near_next image before after c.loop-done.done inside c.visit_references.ensures.held.list c.visit_references.ensures.continues c.visit_references.ensures.near;
      visited = one_more_visit image before after c.loop-done.done inside c.visit_references.ensures.continues c.loop-done.invariant.visited c.visit_references.ensures.visited;
    }

pub returns-clause-all : goal.returns-clause-all
returns-clause-all c = λ k some inside.
    let past : length c.loop-done.visits.list.items ≤ c.loop-done.done = search rules in
    c.loop-done.invariant.visited k some (omega (arith, inside, past)) inside
