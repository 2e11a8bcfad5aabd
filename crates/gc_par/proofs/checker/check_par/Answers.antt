-- A fault of the sizes is the first fault, as it is for `check`.
use Rattle.gc_words.specs.Fault.{first_fault}
use Rattle.gc_words.specs.Views.{image_of}
use Rattle.gc_check.specs.Verdict.{pairs_of}
use Rattle.gc_par.proofs.checker.check_par.Goals as goal

pub returns-in-Err-clause-refused : goal.returns-in-Err-clause-refused
returns-in-Err-clause-refused g c = c.in-Err.ensures.refused (first_fault (image_of c.args.old) (image_of c.args.new) (pairs_of c.args.cert.now))
