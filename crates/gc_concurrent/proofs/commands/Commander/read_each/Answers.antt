-- A turn reads one number more.
use Rattle.std.proofs.Common.{◌≡◌, ◌≤◌, ◌<◌, ◌+◌, ◌++◌, suc, length, map, take, drop, sym, ◌∙◌, arith}
use Rattle.std.specs.Prelude.{slice_set}
use Rattle.std.proofs.lemmas.List.{length-drop, length-map, length-take-le}
use Rattle.gc_graph.specs.Graph.{fields_of, number_of}
use Rattle.gc_heap.specs.Heap.{graph_in}
use Rattle.gc_concurrent.specs.Bulk.{object_of_root, value_in}
use Rattle.gc_concurrent.specs.Holders.{heap_in}
use Rattle.gc_concurrent.proofs.Reading.{number_read, set_next}
use Rattle.gc_concurrent.proofs.commands.Commander.read_each.Goals as goal

pub loop-k-preserved : goal.loop-k-preserved
loop-k-preserved c =
    let fields = fields_of (object_of_root (heap_in c.args.self.now) c.args.s) in
    let old = c.args.numbers.now in
    let n = length old in
    let k = c.loop-k.k in
    let behind = drop c.args.first (map number_of fields) in
    let row = take n behind in
    let left : n ≤ length behind = (let d = length-drop c.args.first (map number_of fields) in let m = length-map fields number_of in omega (arith, d, m, c.requires.long)) in
    let whole : length row ≡ n = length-take-le n behind left in
    let less : k < n = omega (arith, c.loop-k-test.true, c.loop-k.auto.numbers) in
    let x = c.number_at.ensures.value ∙ (λ i. number_of (value_in (graph_in (c.loop-k.invariant.heap i)) c.args.s (c.args.first + k))) ∙ number_read fields c.args.first n k less c.requires.long in
    let one : suc k ≡ k + 1 = omega arith in
    record {
      read = (λ i. slice_set (c.loop-k.invariant.read i) k c.number_at.result) ∙ set_next row old k c.number_at.result (sym whole) (omega (arith, less, whole)) x ∙ (λ i. take (one i) row ++ drop (one i) old);
      heap = c.number_at.ensures.heap ∙ c.loop-k.invariant.heap;
      log = c.number_at.ensures.log ∙ c.loop-k.invariant.log;
      cells = c.number_at.ensures.cells ∙ c.loop-k.invariant.cells;
      moves = c.number_at.ensures.moves ∙ c.loop-k.invariant.moves;
      begun = c.number_at.ensures.begun ∙ c.loop-k.invariant.begun;
    }
