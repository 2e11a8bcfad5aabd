-- The opening state with extra roots is well formed, and each event of a run keeps it so, whichever roots it names.
use Rattle.std.proofs.Common.{refl}
use Rattle.gc_copy.specs.Opening.{opening_state_with}
use Rattle.gc_model.proofs.Public.{carries_from}
use Rattle.gc_copy.proofs.Opening.{opening_with_ok, root_run_ok}
use Rattle.gc_copy.proofs.laws.extra_roots_stay.Goals as goal

pub returns : goal.returns
returns c = record { opening = opening_with_ok; runs = root_run_ok; carried = λ options low high. carries_from (opening_state_with options) (opening_with_ok options low high) refl }
