-- Event by event, the replies to mutators are those of a graph without a collector, or `Full`.
use Rattle.gc_collected.proofs.LegalRuns.{run_is_legal, root_run_is_legal}
use Rattle.gc_collected.proofs.laws.runs_are_legal.Goals as goal

pub returns : goal.returns
returns c = record { slots = run_is_legal; extra_roots = root_run_is_legal }
