-- A turn puts the value of the next root of the row, and leaves room in the log for the others.
use Rattle.std.proofs.Common.{◌∙◌, ◌-◌, ◌+◌, length, ap, subst, arith}
use Rattle.gc_graph.specs.declared.command.Op.TheVariants.{Put}
use Rattle.gc_heap.specs.Heap.{HeapWords}
use Rattle.gc_heap.specs.Places.{root_at}
use Rattle.gc_concurrent.specs.Machines.{Does}
use Rattle.gc_concurrent.specs.Holders.{heap_in}
use Rattle.gc_concurrent.specs.Internal.LogRoom.{HasLogRoom}
use Rattle.gc_concurrent.proofs.Several.{row_next, one_more}
use Rattle.gc_concurrent.proofs.Values.{put_does}
use Rattle.gc_concurrent.proofs.commands.Commander.put_row.Goals as goal

pub put-put-requires-clause-room : goal.put-put-requires-clause-room
put-put-requires-clause-room c on = let room = c.loop-k.invariant.room on in omega (arith, room, c.loop-k-test.true)

pub loop-k-preserved : goal.loop-k-preserved
loop-k-preserved c =
    let old : HeapWords = heap_in c.loop-k.self in
    let mid : HeapWords = heap_in c.put-put.new.self in
    let puts = put_does old mid c.args.d c.loop-k.k (c.args.first + c.from.result) c.put-put.result
    (record { roots = c.put-put.ensures.roots; words = c.put-put.ensures.end.0; size = c.put-put.ensures.end.1; graph = c.put-put.ensures.graph }) in
    record {
      left = λ new rest. c.loop-k.invariant.left new (row_next c.args.d c.loop-k.k c.args.first c.args.count old mid new c.put-put.result c.loop-k-test.true c.put-put.new.self.sound
          (subst (λ k. Does old (Put (root_at c.args.d) c.loop-k.k (root_at (c.args.first + k))) c.put-put.result mid) c.from.ensures puts) rest);
      room = c.put-put.ensures.room (c.args.count - (c.loop-k.k + 1)) (subst (λ n. HasLogRoom n c.loop-k.self) (one_more (c.args.count) c.loop-k.k c.loop-k-test.true) c.loop-k.invariant.room);
      log = omega (arith, c.put-put.ensures.log, c.loop-k.invariant.log);
      cells = c.put-put.ensures.cells ∙ c.loop-k.invariant.cells;
      moves = c.put-put.ensures.moves ∙ c.loop-k.invariant.moves;
      begun = c.put-put.ensures.begun ∙ c.loop-k.invariant.begun;
      roots = ap length c.put-put.ensures.roots ∙ c.loop-k.invariant.roots;
    }
