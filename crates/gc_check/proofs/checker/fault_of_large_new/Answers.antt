-- If only the new image is too large, the first fault is that of the old image's shape or else `NewShape` at 0.
use Rattle.gc_words.specs.Fault.{shape_fault}
use Rattle.gc_words.specs.Views.{image_of}
use Rattle.gc_check.proofs.Sizes.{bad_old}
use Rattle.gc_check.proofs.checker.fault_of_large_new.Goals as goal

pub returns : goal.returns
returns c = λ new rest large. bad_old (image_of c.args.old) new rest c.of_old.result c.requires (c.of_old.ensures (shape_fault (image_of c.args.old)) c.in-Err.ensures)
