-- By induction over the flips, with the quotient and the rest.
use Rattle.gc_collected.proofs.Counts.{along_counted, each_counted, whole_counted}
use Rattle.gc_collected.proofs.laws.flips_are_counted.Goals as goal

pub returns : goal.returns
returns c = record { at_flip = whole_counted; along = along_counted; each = each_counted }
