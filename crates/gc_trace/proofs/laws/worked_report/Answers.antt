-- The worked example of a report holds, by computation.
use Rattle.std.proofs.Common.{refl}
use Rattle.std.specs.Fmt.{digits}
use Rattle.gc_trace.proofs.laws.worked_report.Goals as goal

pub returns : goal.returns
unfolding digits
returns c = record { collected = refl }
