-- The scan pointer does not pass the new end, and each replica takes two words at least, in every state of a run.
use Rattle.gc_model.specs.Passing.{ScansToTheEnd, HasFewPairs}
use Rattle.gc_model.proofs.StateLaws.{in_runs, scans_to_the_end, has_few_pairs}
use Rattle.gc_model.proofs.laws.scans_and_pairs_are_bounded.Goals as goal

pub returns : goal.returns
returns c = record {
  scans = scans_to_the_end;
  pairs = has_few_pairs;
  run_scans = in_runs ScansToTheEnd scans_to_the_end;
  run_pairs = in_runs HasFewPairs has_few_pairs;
}
