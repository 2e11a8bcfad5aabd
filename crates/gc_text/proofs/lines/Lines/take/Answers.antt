-- A line that was taken leaves the reader at the place behind it; that there is none is known once the input has ended.
use Rattle.std.proofs.Common.{◌≡◌, ◌∙◌, ℕ, List, rules, false, ap, sym, subst}
use Rattle.std.proofs.lemmas.Result.{err_from_is_err_and}
use Rattle.gc_graph.specs.Streams.{bytes_left, source_failed}
use Rattle.gc_text.specs.Reading.{Progress, Place, IsAt, NoneIsFirst, CannotRead}
use Rattle.gc_text.proofs.ReadingSteps.{line_taken, at_last, last_waits}
use Rattle.gc_text.proofs.lines.Lines.take.Goals as goal
use Rattle.gc_text.proofs.lines.Lines.take.Goals.{In_default}

pub returns-in-Some-clause-place : goal.returns-in-Some-clause-place
returns-in-Some-clause-place g c text place h =
    line_taken text place c.loop-value.self c.take_waiting.new.self _ (g.K.LineKind.line c.args.kind.now c.in-Some.value) (c.loop-value.invariant.place text place h) c.in-Some.ensures.1 c.in-Some.ensures.2

-- where no line is taken, the reader is where it was at the call
waits : (g : _) (c : In_default g) (text : List ℕ) (place : Place) → IsAt text place c.args.self.now (bytes_left g.R.Read.remaining c.args.reader.now) → IsAt text place c.take_waiting.new.self (bytes_left g.R.Read.remaining c.loop-value.reader)
waits g c text place h = rw c.in_default.ensures.0 (c.loop-value.invariant.place text place h)

pub returns-in_err-more-clause-place : goal.returns-in_err-more-clause-place
returns-in_err-more-clause-place g c text place h =
    let p = err_from_is_err_and c.from_residual.result c.from_residual.ensures.1 in
    let limit : c.take_waiting.new.self.limit ≡ c.args.self.now.limit = ap (λ (q : Progress). q.limit) c.in_default.ensures.0 ∙ c.loop-value.invariant.limit in
    rw (p.1, p.2) (subst (λ (n : ℕ). CannotRead c.in_err-more.field-0.0 n text (bytes_left g.R.Read.remaining c.more.new.reader)) limit (c.in_err-more.ensures.place text place (waits g (goal.at.returns-in_err-more-clause-place g c).In_default text place h)))

pub returns-then-not-branch-clause-place : goal.returns-then-not-branch-clause-place
returns-then-not-branch-clause-place g c text place h =
    let before = waits g (goal.at.returns-then-not-branch-clause-place g c).In_default text place h in
    let after = c.in_ok-more.ensures.place text place before in
    let whole = c.in_ok-more.ensures.whole (search rules) in
    let waits_before = last_waits text place c.take_waiting.new.self c.more.new.self _ _ before after whole.0 whole.1 ∙ ap (λ (q : Progress). q.waiting) c.in_default.ensures.0 in (
      at_last text place c.more.new.self _ after whole.0 c.in_ok-more.ensures.counts.2,
      subst (NoneIsFirst (g.K.LineKind.fits c.args.kind.now) (g.K.LineKind.line c.args.kind.now)) (sym waits_before) c.in_default.ensures.1,
    )

pub loop-value-preserved : goal.loop-value-preserved
loop-value-preserved g c =
    let good : source_failed c.more.new.reader ≡ false = search rules in
    let same = c.in_default.ensures.0 in
    record {
      place = λ text place h. c.in_ok-more.ensures.place text place (waits g (goal.at.loop-value-preserved g c).In_default text place h);
      limit = c.more.ensures.limit ∙ ap (λ (q : Progress). q.limit) same ∙ c.loop-value.invariant.limit;
      taken = c.more.ensures.taken ∙ ap (λ (q : Progress). q.taken) same ∙ c.loop-value.invariant.taken;
      good = good;
    }
