-- A fault of the sizes is the first fault, whatever the other conditions would find.
use Rattle.gc_words.specs.Fault.{first_fault}
use Rattle.gc_words.specs.Views.{image_of}
use Rattle.gc_check.specs.Verdict.{pairs_of}
use Rattle.gc_check.proofs.checker.check.Goals as goal

pub returns-in-Err-clause-refused : goal.returns-in-Err-clause-refused
returns-in-Err-clause-refused c = c.in-Err.ensures.refused (first_fault (image_of c.args.old) (image_of c.args.new) (pairs_of c.args.cert.now))
