-- An object starts at the address exactly if the graph has one with that name.
use Rattle.std.proofs.lemmas.Grind.{common_steps}
use Rattle.std.proofs.Common.{is_some, arith}
use Rattle.gc_collected.proofs.Referred.{start_named}
use Rattle.gc_collected.proofs.collected_heap.CollectedHeap.view_at.Goals as goal

pub object_view-requires-clause-start : goal.object_view-requires-clause-start
object_view-requires-clause-start = grind (arith, common_steps, start_named, is_some)
