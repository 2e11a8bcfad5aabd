-- A turn writes the first of the numbers that are left, and leaves room in the log for the others.
use Rattle.std.proofs.lemmas.Grind.{common_steps}
use Rattle.std.proofs.Common.{◌∙◌, ◌-◌, ◌+◌, ◌^◌, ◌<◌, ◌≡◌, ℕ, zero, suc, true, List, [], ◌∷◌, length, ap, subst, arith}
use Rattle.std.specs.Prelude.{slice_index}
use Rattle.std.specs.List.{list_all}
use Rattle.gc_graph.specs.Graph.{Value, Num, object_of, field_of, root}
use Rattle.gc_graph.specs.Machine.{put_field}
use Rattle.gc_heap.specs.Heap.{HeapWords, graph_in}
use Rattle.gc_heap.specs.Raws.{is_number_word}
use Rattle.gc_concurrent.specs.Holders.{heap_in}
use Rattle.gc_concurrent.specs.Internal.LogRoom.{HasLogRoom}
use Rattle.gc_concurrent.proofs.Reading.{number_means}
use Rattle.gc_concurrent.proofs.Several.{one_more, write_next}
use Rattle.gc_concurrent.proofs.Values.{puts_value}
use Rattle.gc_concurrent.proofs.commands.Commander.write_each.Goals as goal

pub number_at : (words : List ℕ) (k : ℕ) → list_all is_number_word words ≡ true → k < length words → slice_index words k < 2 ^ 63
number_at [] k all less = absurd (omega (arith, less))
number_at (w ∷ words) zero all less = grind (arith, common_steps)
number_at (w ∷ words) (suc k) all less = number_at words k (grind (arith, common_steps)) (omega (arith, less))

pub loop-k-preserved : goal.loop-k-preserved
loop-k-preserved c =
    let old : HeapWords = heap_in c.loop-k.self in
    let mid : HeapWords = heap_in c.write-put.new.self in
    let i = c.args.first + c.loop-k.k in
    let n = slice_index c.args.numbers.now c.loop-k.k in
    let object = object_of (graph_in old).objects (root (graph_in old) c.args.s) in
    let means = number_means n (number_at c.args.numbers.now c.loop-k.k c.requires.numbers c.loop-k-test.true) in
    let puts = puts_value old mid c.args.s i (Num n) c.write-put.result (omega (arith, c.requires.target, c.loop-k.invariant.roots))
    (record {
      roots = c.write-put.ensures.roots;
      words = c.write-put.ensures.end.0;
      size = c.write-put.ensures.end.1;
      graph = c.write-put.ensures.graph ∙ ap (λ (v : Value). put_field (graph_in old) (root (graph_in old) c.args.s) object (field_of object i) i v) means;
    }) in
    let count = length c.args.numbers.now in
    record {
      left = λ new rest. c.loop-k.invariant.left new (write_next c.args.s c.args.first c.loop-k.k c.args.numbers.now old mid new c.write-put.result c.loop-k-test.true c.write-put.new.self.sound puts rest);
      room = c.write-put.ensures.room (count - (c.loop-k.k + 1)) (subst (λ n. HasLogRoom n c.loop-k.self) (one_more count c.loop-k.k c.loop-k-test.true) c.loop-k.invariant.room);
      log = omega (arith, c.write-put.ensures.log, c.loop-k.invariant.log);
      cells = c.write-put.ensures.cells ∙ c.loop-k.invariant.cells;
      moves = c.write-put.ensures.moves ∙ c.loop-k.invariant.moves;
      begun = c.write-put.ensures.begun ∙ c.loop-k.invariant.begun;
      roots = ap length c.write-put.ensures.roots ∙ c.loop-k.invariant.roots;
    }
