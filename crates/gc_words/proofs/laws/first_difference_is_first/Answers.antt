-- Each way: the place that is found is the first difference, the first difference is found, and none is found if there is none.
use Rattle.gc_words.proofs.Faults.{no_difference, difference_none}
use Rattle.gc_words.proofs.FaultPlace.{differ_first, first_found}
use Rattle.gc_words.proofs.laws.first_difference_is_first.Goals as goal

pub returns : goal.returns
returns c = record {
  at = λ alike vs ws i. (differ_first alike vs ws i, first_found alike vs ws i);
  none = λ alike vs ws. (no_difference alike 0 vs ws, difference_none alike 0 vs ws);
}
