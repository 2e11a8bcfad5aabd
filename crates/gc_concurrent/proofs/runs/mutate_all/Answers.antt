-- Each turn adds a reply of the machine.
use Rattle.std.proofs.Common.{◌≡◌, ◌+◌, ◌≤◌, List, [], ◌∷◌, ◌++◌, length, drop, ap, subst, sym, refl, ◌∙◌, arith}
use Rattle.gc_graph.specs.declared.reply.Reply.{Reply}
use Rattle.gc_heap.specs.Heap.{graph_in}
use Rattle.gc_concurrent.specs.Holders.{heap_in}
use Rattle.gc_concurrent.specs.Law.{by_one, HasNoFull, StandsAfter}
use Rattle.gc_concurrent.proofs.Running.{Going, going_first, going_at, going_served, fine_push, counted, all_told, replies_told, leads}
use Rattle.gc_concurrent.proofs.runs.mutate_all.Goals as goal

pub loop-op-init : goal.loop-op-init
loop-op-init g c =
    let first = graph_in (heap_in c.args.runner.commander) in
    subst (λ told. record { count : length told ≡ 0; fine : HasNoFull told; going : Going first (by_one c.args.ops.now) first (by_one c.args.ops.now) told }) (sym c.new-replies.ensures.items)
    (record { count = refl; fine = refl; going = going_first first (by_one c.args.ops.now) })

pub loop-op-preserved : goal.loop-op-preserved
loop-op-preserved g c =
    let told = c.loop-op.replies.items in
    subst (λ told. record {
      count : length told ≡ c.loop-op.op-index + 1;
      fine : HasNoFull told;
      going : Going (graph_in (heap_in c.args.runner.commander)) (by_one c.args.ops.now) (graph_in (heap_in c.poll-runner.result.commander)) (by_one (drop (c.loop-op.op-index + 1) c.args.ops.now)) told;
    }) (sym (c.push_reserved.ensures.items ∙ ap (λ t. t ++ c.in-Ok.both.1 ∷ []) c.served.ensures.told))
    (record {
      count = counted told c.in-Ok.both.1 c.loop-op.op-index c.loop-op.invariant.count;
      fine = fine_push told c.in-Ok.both.1 c.loop-op.invariant.fine c.in-Ok.ensures.fine;
      going = going_served (graph_in (heap_in c.args.runner.commander)) (by_one c.args.ops.now) (heap_in c.loop-op.runner.commander) (heap_in c.in-Ok.both.0.commander) (heap_in c.poll-runner.result.commander)
          c.args.ops.now c.loop-op.op-index told c.op-item.result c.in-Ok.both.1 c.loop-op.runner.commander.sound
          c.loop-op-test.true c.op-item.is c.loop-op.invariant.going c.in-Ok.ensures.serves c.in-Ok.ensures.fine c.poll-runner.ensures.heap;
    })

-- memory runs out before a command
pub returns-in-Err : goal.returns-in-Err
returns-in-Err g c =
    let first = heap_in c.args.runner.commander in
    let all = c.args.ops.now in
    let told = c.loop-op.replies.items in
    let rest = by_one (drop c.loop-op.op-index all) in
    let old = heap_in c.loop-op.runner.commander in
    let new = heap_in c.in-Err.runner.commander in
    let going = going_at (graph_in first) (by_one all) old new rest told c.loop-op.runner.commander.sound c.in-Err.ensures.shows c.loop-op.invariant.going in
    record {
      replies = tt;
      fine = tt;
      count = tt;
      heap = tt;
      cut = subst (λ (t : List Reply). StandsAfter first all t new) (sym c.served.ensures.told) (record {
        replies = replies_told first all (graph_in new) rest told going;
        fine = c.loop-op.invariant.fine;
        fewer = (let n = c.loop-op.invariant.count in let l = c.loop-op-test.true in omega arith);
        shown = leads first new all rest told c.in-Err.runner.commander.sound going;
      });
    }

pub returns : goal.returns
returns g c =
    let first = heap_in c.args.runner.commander in
    let told = c.loop-op.replies.items in
    let all = c.args.ops.now in
    let low : c.loop-op.op-index ≤ length all = c.loop-op.auto.op-index-end in
    let high : length all ≤ c.loop-op.op-index = c.loop-op-test.false in
    let end : c.loop-op.op-index ≡ length all = omega arith in
    let count : length told ≡ length all = c.loop-op.invariant.count ∙ end in
    record {
      replies = all_told first all (graph_in (heap_in c.loop-op.runner.commander)) (by_one (drop c.loop-op.op-index all)) told count c.loop-op.invariant.going;
      fine = c.loop-op.invariant.fine;
      count = count;
      heap = leads first (heap_in c.loop-op.runner.commander) all (by_one (drop c.loop-op.op-index all)) told c.loop-op.runner.commander.sound c.loop-op.invariant.going;
      cut = tt;
    }
