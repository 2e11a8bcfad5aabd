-- The word of nil means nil.
use Rattle.std.proofs.Common.{refl}
use Rattle.gc_graph.specs.Graph as graphs
use Rattle.gc_graph.specs.declared.command.Op.TheVariants.{Nil}
use Rattle.gc_heap.specs.Places.{root_at}
use Rattle.gc_heap.proofs.Public.{meaning, took_root}
use Rattle.gc_concurrent.specs.Holders.{heap_in}
use Rattle.gc_concurrent.proofs.commands.Commander.nil_root.Goals as goal

pub returns-clause-step : goal.returns-clause-step
returns-clause-step c =
    (took_root (heap_in c.args.self.now) (heap_in c.set_at.new.self) 0 (Nil (root_at c.args.d)) c.args.d c.encode.result graphs.Nil c.set_at.result (λ none. none)
    refl (meaning c.encode.result graphs.Nil c.encode.ensures.read_back) c.set_at.ensures.done c.set_at.ensures.heap).step
