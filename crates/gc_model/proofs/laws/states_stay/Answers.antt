-- An opening state is well formed, and each command and each step keeps a state so.
use Rattle.std.proofs.Common.{rules}
use Rattle.gc_model.proofs.Steps.{collect_keeps, mutate_keeps, ranged}
use Rattle.gc_model.proofs.Runs.{opening_ok, run_ok}
use Rattle.gc_model.proofs.laws.states_stay.Goals as goal

pub returns : goal.returns
returns = search (rules, opening_ok, mutate_keeps, ranged, collect_keeps, run_ok)
