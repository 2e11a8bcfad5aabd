-- If no condition fails, the certificate holds, and if it holds, no condition can fail.
use Rattle.gc_words.proofs.Faults.{certified_of_no_fault, no_fault_of_certified}
use Rattle.gc_words.proofs.laws.no_fault_where_certified.Goals as goal

pub returns : goal.returns
returns c = λ old new pairs. (certified_of_no_fault old new pairs, no_fault_of_certified old new pairs)
