-- The heap shows what it showed at first, and the replies are the same.
use Rattle.std.proofs.Common.{◌≡◌}
use Rattle.gc_graph.specs.Graph.{Graph}
use Rattle.gc_concurrent.specs.Holders.{heap_in}
use Rattle.gc_concurrent.specs.Law.{Shows}
use Rattle.gc_concurrent.proofs.runs.served.Given as goal

abbrev pub invariant-loop : goal.invariant-loop
invariant-loop g l = record {
  told : l.told.items ≡ l.fn.told.items;
  shows : (graph : Graph) → Shows graph (heap_in l.fn.runner.commander) → Shows graph (heap_in l.runner.commander);
}
