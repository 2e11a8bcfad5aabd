-- If the writer fails, what went out is a prefix of the report's text.
use Rattle.gc_trace.proofs.player.play_report.Goals as goal

pub returns-in-Err-clause-front : goal.returns-in-Err-clause-front
returns-in-Err-clause-front g c _ =
    let played = c.in_ok-report.ensures.played in
    (played.0, played.1, rw played.2.0 at c.in-Err.ensures.err)
