-- A fault of the sizes is the first one that the tables can have, whatever the other conditions would find.
use Rattle.gc_words.specs.Fault.{table_fault}
use Rattle.gc_words.specs.Views.{image_of}
use Rattle.gc_check.specs.Verdict.{pairs_of}
use Rattle.gc_check.proofs.tables.Tables.new.Goals as goal

pub returns-in-Err : goal.returns-in-Err
returns-in-Err c = c.in-Err.ensures.refused (table_fault (image_of c.args.old) (image_of c.args.new) (pairs_of c.args.cert.now))
