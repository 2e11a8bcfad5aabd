-- The word of a number means this number.
use Rattle.std.proofs.Common.{refl}
use Rattle.gc_graph.specs.Graph as graphs
use Rattle.gc_graph.specs.declared.command.Op.TheVariants.{Num}
use Rattle.gc_heap.specs.Places.{root_at}
use Rattle.gc_heap.proofs.Public.{meaning, took_root}
use Rattle.gc_concurrent.specs.Holders.{heap_in}
use Rattle.gc_concurrent.proofs.commands.Commander.num_root.Goals as goal

pub returns-clause-step : goal.returns-clause-step
returns-clause-step c =
    (took_root (heap_in c.args.self.now) (heap_in c.set_at.new.self) 0 (Num (root_at c.args.d) c.args.n) c.args.d c.encode-word.result (graphs.Num c.args.n) c.set_at.result (λ none. none)
    refl (meaning c.encode-word.result (graphs.Num c.args.n) c.encode-word.ensures.read_back) c.set_at.ensures.done c.set_at.ensures.heap).step
