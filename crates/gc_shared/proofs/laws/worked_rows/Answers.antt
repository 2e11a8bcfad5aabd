-- The worked examples of receipts hold, by computation.
use Rattle.gc_shared.proofs.WorkedRows.{rows}
use Rattle.gc_shared.proofs.laws.worked_rows.Goals as goal

pub returns : goal.returns
returns c = rows
