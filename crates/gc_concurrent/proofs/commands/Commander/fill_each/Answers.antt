-- A turn fills the first of the fields that are left, and leaves room in the log for the others.
use Rattle.std.proofs.Common.{◌∙◌, ◌-◌, ◌+◌, length, ap, subst, arith}
use Rattle.gc_heap.specs.Heap.{HeapWords}
use Rattle.gc_concurrent.specs.Holders.{heap_in}
use Rattle.gc_concurrent.specs.Internal.LogRoom.{HasLogRoom}
use Rattle.gc_concurrent.proofs.Several.{fill_next, one_more}
use Rattle.gc_concurrent.proofs.Values.{put_does}
use Rattle.gc_concurrent.proofs.commands.Commander.fill_each.Goals as goal

pub put-put-requires-clause-room : goal.put-put-requires-clause-room
put-put-requires-clause-room c on = let room = c.loop-k.invariant.room on in omega (arith, room, c.loop-k-test.true)

pub loop-k-preserved : goal.loop-k-preserved
loop-k-preserved c =
    let old : HeapWords = heap_in c.loop-k.self in
    let mid : HeapWords = heap_in c.put-put.new.self in
    record {
      left = λ new rest. c.loop-k.invariant.left new (fill_next c.args.s c.args.from c.args.t c.loop-k.k c.args.count old mid new c.put-put.result c.loop-k-test.true c.put-put.new.self.sound
          (put_does old mid c.args.s (c.args.from + c.loop-k.k) c.args.t c.put-put.result (record { roots = c.put-put.ensures.roots; words = c.put-put.ensures.end.0; size = c.put-put.ensures.end.1; graph = c.put-put.ensures.graph })) rest);
      room = c.put-put.ensures.room (c.args.count - (c.loop-k.k + 1)) (subst (λ n. HasLogRoom n c.loop-k.self) (one_more (c.args.count) c.loop-k.k c.loop-k-test.true) c.loop-k.invariant.room);
      log = omega (arith, c.put-put.ensures.log, c.loop-k.invariant.log);
      cells = c.put-put.ensures.cells ∙ c.loop-k.invariant.cells;
      moves = c.put-put.ensures.moves ∙ c.loop-k.invariant.moves;
      begun = c.put-put.ensures.begun ∙ c.loop-k.invariant.begun;
      roots = ap length c.put-put.ensures.roots ∙ c.loop-k.invariant.roots;
    }
