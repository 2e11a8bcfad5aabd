-- A turn copies the first of the fields that are left, and leaves room in the log for the others.
use Rattle.std.proofs.Common.{◌∙◌, ◌-◌, ◌+◌, length, ap, subst, arith}
use Rattle.gc_heap.specs.Heap.{HeapWords}
use Rattle.gc_concurrent.specs.Holders.{heap_in}
use Rattle.gc_concurrent.specs.Internal.LogRoom.{HasLogRoom}
use Rattle.gc_concurrent.proofs.Several.{copy_next, one_more}
use Rattle.gc_concurrent.proofs.commands.Commander.copy_each.Goals as goal

pub copy_one-put-requires-clause-room : goal.copy_one-put-requires-clause-room
copy_one-put-requires-clause-room c on = let room = c.loop-k.invariant.room on in omega (arith, room, c.loop-k-test.true)

pub loop-k-preserved : goal.loop-k-preserved
loop-k-preserved c =
    let old : HeapWords = heap_in c.loop-k.self in
    let mid : HeapWords = heap_in c.copy_one-put.new.self in
    record {
      left = λ new rest. c.loop-k.invariant.left new (copy_next c.args.d c.args.to c.args.s c.args.from c.loop-k.k c.args.count old mid new c.copy_one-put.result c.loop-k-test.true c.copy_one-put.new.self.sound c.copy_one-put.ensures.step rest);
      room = c.copy_one-put.ensures.room (c.args.count - (c.loop-k.k + 1)) (subst (λ n. HasLogRoom n c.loop-k.self) (one_more c.args.count c.loop-k.k c.loop-k-test.true) c.loop-k.invariant.room);
      log = omega (arith, c.copy_one-put.ensures.log, c.loop-k.invariant.log);
      cells = c.copy_one-put.ensures.cells ∙ c.loop-k.invariant.cells;
      moves = c.copy_one-put.ensures.moves ∙ c.loop-k.invariant.moves;
      begun = c.copy_one-put.ensures.begun ∙ c.loop-k.invariant.begun;
      roots = ap length c.copy_one-put.ensures.roots ∙ c.loop-k.invariant.roots;
    }
