-- A fault of the old shape is the first of all, and one of the new shape the first if the old image is shaped.
use Rattle.gc_words.specs.Fault.{shape_fault}
use Rattle.gc_words.specs.Views.{image_of}
use Rattle.gc_check.specs.Verdict.{pairs_of}
use Rattle.gc_check.proofs.Placements.{old_refused, new_refused}
use Rattle.gc_check.proofs.tables.Tables.new_wide.Goals as goal

pub returns-in-Err : goal.returns-in-Err
returns-in-Err c =
    old_refused (image_of c.args.old) (image_of c.args.new) (pairs_of c.args.cert.now) c.of_old.result
    (c.of_old.ensures (shape_fault (image_of c.args.old)) c.in-Err.ensures)

pub returns-in-Err-new : goal.returns-in-Err-new
returns-in-Err-new c =
    new_refused (image_of c.args.old) (image_of c.args.new) (pairs_of c.args.cert.now) c.of_new.result c.in-Ok.ensures.0
    (c.of_new.ensures (shape_fault (image_of c.args.new)) c.in-Err-new.ensures)
