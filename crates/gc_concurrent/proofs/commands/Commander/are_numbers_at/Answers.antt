-- The row of numbers goes on exactly if this field holds one.
use Rattle.std.proofs.lemmas.Grind.{common_steps}
use Rattle.std.proofs.Common.{◌≡◌, ◌+◌, ◌-◌, ◌&&◌, true, false, drop, take, sym, ◌∙◌, arith}
use Rattle.std.specs.List.{list_all}
use Rattle.gc_graph.specs.Graph.{fields_of}
use Rattle.gc_graph.specs.Machine.{is_number}
use Rattle.gc_heap.specs.Heap.{graph_in}
use Rattle.gc_concurrent.specs.Bulk.{object_of_root, value_in}
use Rattle.gc_concurrent.specs.Holders.{heap_in}
use Rattle.gc_concurrent.proofs.Reading.{numbers_next}
use Rattle.gc_concurrent.proofs.commands.Commander.are_numbers_at.Goals as goal

pub returns-then-not-is_number_in-clause-all : goal.returns-then-not-is_number_in-clause-all
returns-then-not-is_number_in-clause-all c =
    let fields = fields_of (object_of_root (heap_in c.args.self.now) c.args.s) in
    let others = list_all is_number (take (c.args.count - (c.loop-k.k + 1)) (drop (c.args.from + (c.loop-k.k + 1)) fields)) in
    let none : c.is_number_in.result ≡ false = grind (arith, common_steps, c.if-not-is_number_in.true) in
    let is = sym none ∙ c.is_number_in.ensures.value ∙ (λ i. is_number (value_in (graph_in (c.loop-k.invariant.heap i)) c.args.s (c.args.from + c.loop-k.k))) in
    (λ i. is i && others) ∙ sym (numbers_next fields c.args.from c.args.count c.loop-k.k c.loop-k-test.true c.requires.long) ∙ c.loop-k.invariant.all

pub loop-k-preserved : goal.loop-k-preserved
loop-k-preserved c =
    let fields = fields_of (object_of_root (heap_in c.args.self.now) c.args.s) in
    let others = list_all is_number (take (c.args.count - (c.loop-k.k + 1)) (drop (c.args.from + (c.loop-k.k + 1)) fields)) in
    let some : c.is_number_in.result ≡ true = grind (arith, common_steps, c.if-not-is_number_in.false) in
    let is = sym some ∙ c.is_number_in.ensures.value ∙ (λ i. is_number (value_in (graph_in (c.loop-k.invariant.heap i)) c.args.s (c.args.from + c.loop-k.k))) in
    record {
      all = (λ i. is i && others) ∙ sym (numbers_next fields c.args.from c.args.count c.loop-k.k c.loop-k-test.true c.requires.long) ∙ c.loop-k.invariant.all;
      heap = c.is_number_in.ensures.heap ∙ c.loop-k.invariant.heap;
      logs = c.is_number_in.ensures.logs ∙ c.loop-k.invariant.logs;
      log = c.is_number_in.ensures.log ∙ c.loop-k.invariant.log;
      cells = c.is_number_in.ensures.cells ∙ c.loop-k.invariant.cells;
      moves = c.is_number_in.ensures.moves ∙ c.loop-k.invariant.moves;
      begun = c.is_number_in.ensures.begun ∙ c.loop-k.invariant.begun;
    }
