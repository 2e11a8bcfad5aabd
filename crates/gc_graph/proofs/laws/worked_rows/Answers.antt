-- The worked examples hold: the prover computes them.
use Rattle.std.proofs.Common.{refl}
use Rattle.gc_graph.proofs.laws.worked_rows.Goals as goal

pub returns : goal.returns
returns c = record { full_at_once = refl; full_later = refl; greatest_number = refl; two_objects = refl; refusals = refl; raw_object = refl }
