-- A word is read alike in a small space and in any, unless it refers beyond the small one, and then it is in no pair.
use Rattle.gc_check.proofs.SmallWords.{mean_the_same, certified_same, fault_same}
use Rattle.gc_check.proofs.laws.small_images_mean_the_same.Goals as goal

pub returns-clause-words : goal.returns-clause-words
returns-clause-words c = mean_the_same

pub returns-clause-certified : goal.returns-clause-certified
returns-clause-certified c = certified_same

pub returns-clause-fault : goal.returns-clause-fault
returns-clause-fault c = fault_same
