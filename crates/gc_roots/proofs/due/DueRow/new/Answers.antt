-- A row of zeros has no mark, and its summary has none.
use Rattle.std.proofs.Common.{arith, ◌/◌, ◌+◌}
use Rattle.std.proofs.lemmas.Grind.{common_steps}
use Rattle.gc_roots.proofs.Rows.{zero_row, zero_marks}
use Rattle.gc_roots.proofs.due.DueRow.new.Goals as goal
use Rattle.gc_roots.proofs.due.DueRow.new.Goals.{After-len-low}

pub invariant_of-result : goal.invariant_of-result
invariant_of-result c = zero_row c.in_ok-bits.bits.items c.in_ok-sums.sums.items (c.args.places / 64 + 1) ((c.args.places / 64 + 1) / 64 + 1) c.len-low.result (grind (arith, common_steps)) (grind (arith, common_steps)) (omega arith) (omega arith)

pub returns-clause-none : goal.returns-clause-none
returns-clause-none c k = zero_marks c.in_ok-bits.bits.items (c.args.places / 64 + 1) k (grind (arith, common_steps))
