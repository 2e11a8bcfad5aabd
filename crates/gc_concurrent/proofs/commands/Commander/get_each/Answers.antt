-- A turn reads the first of the fields that are left into its root.
use Rattle.std.proofs.Common.{◌∙◌, ◌+◌, subst}
use Rattle.gc_graph.specs.declared.command.Op.TheVariants.{Get}
use Rattle.gc_heap.specs.Heap.{HeapWords}
use Rattle.gc_heap.specs.Places.{root_at}
use Rattle.gc_concurrent.specs.Machines.{Does}
use Rattle.gc_concurrent.specs.Holders.{heap_in}
use Rattle.gc_concurrent.proofs.Several.{get_next}
use Rattle.gc_concurrent.proofs.commands.Commander.get_each.Goals as goal

pub loop-k-preserved : goal.loop-k-preserved
loop-k-preserved c =
    let old : HeapWords = heap_in c.loop-k.self in
    let mid : HeapWords = heap_in c.get_root-got.new.self in
    record {
      left = λ new rest. c.loop-k.invariant.left new (get_next c.args.first c.args.s c.loop-k.k c.args.count old mid new c.get_root-got.result c.loop-k-test.true c.get_root-got.new.self.sound
          (subst (λ k. Does old (Get (root_at (c.args.first + k)) (root_at c.args.s) c.loop-k.k) c.get_root-got.result mid) c.from.ensures c.get_root-got.ensures.step) rest);
      log = c.get_root-got.ensures.log ∙ c.loop-k.invariant.log;
      cells = c.get_root-got.ensures.cells ∙ c.loop-k.invariant.cells;
      moves = c.get_root-got.ensures.moves ∙ c.loop-k.invariant.moves;
      begun = c.get_root-got.ensures.begun ∙ c.loop-k.invariant.begun;
      roots = c.get_root-got.ensures.roots ∙ c.loop-k.invariant.roots;
    }
