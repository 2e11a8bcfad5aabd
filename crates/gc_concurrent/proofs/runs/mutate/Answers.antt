-- Each turn adds a reply of the machine; the loop ends where all is performed, or where a command finds no room.
use Rattle.std.proofs.lemmas.Grind.{common_steps}
use Rattle.std.proofs.Common.{◌≡◌, ◌+◌, List, [], ◌∷◌, ◌++◌, length, true, false, drop, ap, subst, sym, ◌∙◌, refl, arith}
use Rattle.gc_graph.specs.Runs.{is_full}
use Rattle.gc_graph.specs.declared.reply.Reply.{Reply}
use Rattle.gc_heap.specs.Heap.{HeapWords, graph_in}
use Rattle.gc_concurrent.specs.Holders.{heap_in}
use Rattle.gc_concurrent.specs.Law.{by_one, AreReplies, HasNoFull, EndsAt, ShowsAfter, StandsAfter}
use Rattle.gc_concurrent.proofs.Running.{Going, going_first, going_next, fine_push, counted, ends_all, ends_full, going_full, replies_told, leads}
use Rattle.gc_concurrent.proofs.runs.mutate.Goals as goal

pub loop-op-init : goal.loop-op-init
loop-op-init g c =
    let first = graph_in (heap_in c.args.runner.commander) in
    subst (λ told. record { count : length told ≡ 0; fine : HasNoFull told; going : Going first (by_one c.args.ops.now) first (by_one c.args.ops.now) told }) (sym c.new-told.ensures.items)
    (record { count = refl; fine = refl; going = going_first first (by_one c.args.ops.now) })

pub loop-op-preserved : goal.loop-op-preserved
loop-op-preserved g c =
    let told = c.loop-op.told.items in
    let fine : is_full c.in-Ok.both.1 ≡ false = grind (arith, common_steps, c.eq.ensures, c.if-eq.false) in
    subst (λ told. record {
      count : length told ≡ c.loop-op.op-index + 1;
      fine : HasNoFull told;
      going : Going (graph_in (heap_in c.args.runner.commander)) (by_one c.args.ops.now) (graph_in (heap_in c.poll-runner.result.commander)) (by_one (drop (c.loop-op.op-index + 1) c.args.ops.now)) told;
    }) (sym (c.push_reserved.ensures.items ∙ ap (λ t. t ++ c.in-Ok.both.1 ∷ []) c.with_place.ensures.told))
    (record {
      count = counted told c.in-Ok.both.1 c.loop-op.op-index c.loop-op.invariant.count;
      fine = fine_push told c.in-Ok.both.1 c.loop-op.invariant.fine fine;
      going = going_next (graph_in (heap_in c.args.runner.commander)) (by_one c.args.ops.now) (heap_in c.loop-op.runner.commander) (heap_in c.in-Ok.both.0.commander) (heap_in c.poll-runner.result.commander)
          c.args.ops.now c.loop-op.op-index told c.op-item.result c.in-Ok.both.1 c.loop-op.runner.commander.sound
          c.loop-op-test.true c.op-item.is c.loop-op.invariant.going c.in-Ok.ensures.does fine c.poll-runner.ensures.heap;
    })

-- memory runs out before a command
pub returns-in-Err : goal.returns-in-Err
returns-in-Err g c =
    let first = heap_in c.args.runner.commander in
    let all = c.args.ops.now in
    let told = c.loop-op.told.items in
    let rest = by_one (drop c.loop-op.op-index all) in
    record {
      replies = tt;
      fine = tt;
      ends = tt;
      heap = tt;
      cut = subst (λ (z : List Reply × HeapWords). StandsAfter first all z.0 z.1) (λ i. (sym c.with_place.ensures.told i, sym c.in-Err.ensures.same i)) (record {
        replies = replies_told first all (graph_in (heap_in c.loop-op.runner.commander)) rest told c.loop-op.invariant.going;
        fine = c.loop-op.invariant.fine;
        fewer = (let n = c.loop-op.invariant.count in let l = c.loop-op-test.true in omega arith);
        shown = leads first (heap_in c.loop-op.runner.commander) all rest told c.loop-op.runner.commander.sound c.loop-op.invariant.going;
      });
    }

-- a command finds no room
pub returns-then-eq : goal.returns-then-eq
returns-then-eq g c =
    let first = heap_in c.args.runner.commander in
    let all = c.args.ops.now in
    let told = c.loop-op.told.items in
    let old = heap_in c.loop-op.runner.commander in
    let new = heap_in c.in-Ok.both.0.commander in
    let rest = by_one (drop c.loop-op.op-index all) in
    let full : is_full c.in-Ok.both.1 ≡ true = grind (arith, common_steps, c.eq.ensures, c.if-eq.true) in
    let same : told ≡ c.with_place.new.told.items = sym c.with_place.ensures.told in
    record {
      replies = subst (AreReplies first all) same (replies_told first all (graph_in old) rest told c.loop-op.invariant.going);
      fine = subst HasNoFull same c.loop-op.invariant.fine;
      ends = subst (λ t. EndsAt new all (length t)) same (subst (λ n. EndsAt new all n) (sym c.loop-op.invariant.count)
          (ends_full old new all c.loop-op.op-index c.op-item.result c.in-Ok.both.1 c.loop-op-test.true c.op-item.is c.in-Ok.ensures.does full));
      heap = subst (λ t. ShowsAfter first all (length t) new) same (leads first new all rest told c.in-Ok.both.0.commander.sound
          (going_full (graph_in first) (by_one all) old new c.op-item.result rest told c.in-Ok.both.1 c.in-Ok.ensures.does full c.loop-op.invariant.going));
      cut = tt;
    }

pub returns : goal.returns
returns g c =
    let first = heap_in c.args.runner.commander in
    let told = c.loop-op.told.items in
    let all = c.args.ops.now in
    record {
      replies = replies_told first all (graph_in (heap_in c.loop-op.runner.commander)) (by_one (drop c.loop-op.op-index all)) told c.loop-op.invariant.going;
      fine = c.loop-op.invariant.fine;
      ends = subst (λ n. EndsAt (heap_in c.loop-op.runner.commander) all n) (sym c.loop-op.invariant.count) (ends_all (heap_in c.loop-op.runner.commander) all c.loop-op.op-index c.loop-op.auto.op-index-end c.loop-op-test.false);
      heap = leads first (heap_in c.loop-op.runner.commander) all (by_one (drop c.loop-op.op-index all)) told c.loop-op.runner.commander.sound c.loop-op.invariant.going;
      cut = tt;
    }
