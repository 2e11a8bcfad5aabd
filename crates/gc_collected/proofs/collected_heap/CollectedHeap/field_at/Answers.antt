-- The field is that of the object that starts at the address, which the graph has.
use Rattle.std.proofs.lemmas.Grind.{common_steps}
use Rattle.std.proofs.Common.{is_some, arith}
use Rattle.gc_collected.proofs.Referred.{start_named}
use Rattle.gc_collected.proofs.collected_heap.CollectedHeap.field_at.Goals as goal

pub value_at-requires : goal.value_at-requires
value_at-requires = grind (arith, common_steps, start_named, is_some)
