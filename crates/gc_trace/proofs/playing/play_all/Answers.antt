-- If the text is known, the events that were read to its end are those of the trace that it is, and so are the results.
use Rattle.std.proofs.Common.{◌∙◌}
use Rattle.std.proofs.lemmas.Result.{err_from_is_err_and}
use Rattle.gc_trace.specs.Faults.{IsReadAsTrace}
use Rattle.gc_trace.specs.Internal.Reading.{read_so_far}
use Rattle.gc_trace.specs.Plays.{trace_opening}
use Rattle.gc_text.proofs.Public.{if_known}
use Rattle.gc_trace.proofs.playing.play_all.Goals as goal

pub returns-in-Ok-clause-played : goal.returns-in-Ok-clause-played
returns-in-Ok-clause-played g c =
    let rest = c.in_ok-take_all.ensures.played in
    let trace = read_so_far c.in_ok-lines.lines rest.events in
    let finished = c.in-Ok.ensures in (
      trace,
      record { recording = rest.recording; read = if_known {P = IsReadAsTrace trace} _ (λ text is. rest.read text (c.in_ok-lines.ensures.exact text is)) },
      (finished.report (trace_opening trace) rest.events rest.played, λ gathered. finished.replies (trace_opening trace) rest.events rest.played (c.take_all.ensures.gather ∙ c.in_ok-player.ensures.gather ∙ gathered)),
    )

pub returns-in_err-take_all-clause-fault : goal.returns-in_err-take_all-clause-fault
returns-in_err-take_all-clause-fault g c =
    let p = err_from_is_err_and c.from_residual-in_err-take_all.result c.from_residual-in_err-take_all.ensures.1 in
    rw (p.1, p.2) (if_known _ (λ text is. c.in_err-take_all.ensures.fault text (c.in_ok-lines.ensures.exact text is)))

pub returns-in_err-take_all-clause-read : goal.returns-in_err-take_all-clause-read
returns-in_err-take_all-clause-read g c =
    let p = err_from_is_err_and c.from_residual-in_err-take_all.result c.from_residual-in_err-take_all.ensures.1 in
    let r = c.in_err-take_all.ensures.read in
    rw (p.1, p.2) ((λ h. r.0 (cc h)), (λ s. cc (r.1 s)))

pub returns-clause-fault : goal.returns-clause-fault
returns-clause-fault g c = if_known _ (λ text is. tt)
