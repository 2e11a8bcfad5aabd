-- If no more comes, all that is left of the text waits.
use Rattle.std.proofs.Common.{◌≡◌, ◌∙◌, ℕ, rules, false, subst}
use Rattle.std.proofs.lemmas.Result.{err_from_is_err_and}
use Rattle.gc_graph.specs.Streams.{bytes_left, source_failed}
use Rattle.gc_text.specs.Reading.{CannotRead}
use Rattle.gc_text.proofs.ReadingSteps.{at_last}
use Rattle.gc_text.proofs.lines.Lines.read_to_end.Goals as goal

pub returns-in_err-more-clause-place : goal.returns-in_err-more-clause-place
returns-in_err-more-clause-place g c text place h =
    let p = err_from_is_err_and c.from_residual.result c.from_residual.ensures.1 in
    rw (p.1, p.2) (subst (λ (n : ℕ). CannotRead c.in_err-more.field-0.0 n text (bytes_left g.R.Read.remaining c.more.new.reader)) c.loop.invariant.limit (c.in_err-more.ensures.place text place (c.loop.invariant.place text place h)))

pub loop-preserved : goal.loop-preserved
loop-preserved g c =
    let good : source_failed c.more.new.reader ≡ false = search rules in
    record {
      place = λ text place h. c.in_ok-more.ensures.place text place (c.loop.invariant.place text place h);
      limit = c.more.ensures.limit ∙ c.loop.invariant.limit;
      taken = c.more.ensures.taken ∙ c.loop.invariant.taken;
      good = good;
    }

pub returns-clause-place : goal.returns-clause-place
returns-clause-place g c text place h =
    at_last text place c.more.new.self _ (c.in_ok-more.ensures.place text place (c.loop.invariant.place text place h)) (c.in_ok-more.ensures.whole (search rules)).0 c.in_ok-more.ensures.counts.2
