-- The first bytes are read at the start of the text.
use Rattle.std.proofs.lemmas.Result.{err_from_is_err_and}
use Rattle.gc_text.specs.Reading.{start}
use Rattle.gc_text.proofs.ReadingSteps.{at_start}
use Rattle.gc_text.proofs.lines.Lines.open.Goals as goal

pub returns-in_err-more-clause-place : goal.returns-in_err-more-clause-place
returns-in_err-more-clause-place g c text is =
    let p = err_from_is_err_and c.from_residual.result c.from_residual.ensures.1 in
    rw (p.1, p.2) ((rw c.unread-lines.ensures at c.in_err-more.ensures.place) text (start text) (at_start text c.args.limit _ is))

pub returns-clause-place : goal.returns-clause-place
returns-clause-place g c text is = (rw c.unread-lines.ensures at c.in_ok-more.ensures.place) text (start text) (at_start text c.args.limit _ is)
