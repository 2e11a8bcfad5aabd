-- A space without objects and roots of zeros have the graph of an opening: no objects, and all roots nil.
use Rattle.std.proofs.lemmas.Grind.{common_steps}
use Rattle.std.proofs.Common.{◌+◌, ◌-◌, ◌∙◌, ap, arith}
use Rattle.gc_graph.specs.Slots.{roots_of}
use Rattle.gc_heap.specs.Heap.{roomy_in}
use Rattle.gc_words.proofs.Public.{graph_empty}
use Rattle.gc_heap.proofs.heap.Heap.open_with.Goals as goal

pub returns-clause-empty : goal.returns-clause-empty
returns-clause-empty c = grind (arith, common_steps)

pub returns-clause-opening : goal.returns-clause-opening
returns-clause-opening c =
    let options = c.args.options.now in
    ap roomy_in (returns-clause-empty c) ∙ (λ i. record { graph = graph_empty options.size (roots_of options.mutators + options.extra_roots) i; free = options.size - 1 })
