-- The root takes the word that means nil, which is what the machine's `Nil` leaves.
use Rattle.std.proofs.Common.{refl}
use Rattle.gc_graph.specs.Graph as graphs
use Rattle.gc_graph.specs.declared.command.Op.TheVariants.{Nil}
use Rattle.gc_heap.specs.Places.{root_at}
use Rattle.gc_heap.proofs.Views.{meaning}
use Rattle.gc_heap.proofs.Steps.{took_root}
use Rattle.gc_heap.proofs.heap.Heap.nil_root.Goals as goal

pub returns-clause-performs : goal.returns-clause-performs
returns-clause-performs c = λ m.
    took_root c.args.self.now c.set_at.new.self m (Nil (root_at c.args.d)) c.args.d c.encode.result graphs.Nil c.set_at.result (λ none. none)
    refl (meaning c.encode.result graphs.Nil c.encode.ensures.read_back) c.set_at.ensures.done c.set_at.ensures.heap
