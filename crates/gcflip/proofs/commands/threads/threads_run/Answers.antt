-- The trace, its scripts, the run and the written history fit together, so the text that goes out is that of such a run.
use Rattle.gc_trace.specs.Views.{recording}
use Rattle.gcflip.proofs.ThreadedRuns.{threaded}
use Rattle.gcflip.proofs.commands.threads.threads_run.Goals as goal

pub returns-in-Ok-clause-ran : goal.returns-in-Ok-clause-ran
returns-in-Ok-clause-ran g c =
    let t = recording c.in_ok-trace.trace in (
      t,
      record { recording = c.in_ok-trace.ensures.sound; read = c.in_ok-trace.ensures.exact },
      (c.in_ok-world.world.entries, threaded t c.args.turns c.in_ok-scripts.scripts.items c.in_ok-world.world c.in_ok-scripts.ensures c.in_ok-world.ensures c.history.ensures.history, rw c.history.ensures.entries at c.in-Ok.ensures.ok),
    )

pub returns-clause-front : goal.returns-clause-front
returns-clause-front g c _ =
    let t = recording c.in_ok-trace.trace in (
      t,
      record { recording = c.in_ok-trace.ensures.sound; read = c.in_ok-trace.ensures.exact },
      (c.in_ok-world.world.entries, threaded t c.args.turns c.in_ok-scripts.scripts.items c.in_ok-world.world c.in_ok-scripts.ensures c.in_ok-world.ensures c.history.ensures.history, rw c.history.ensures.entries at c.in-Err.ensures.err),
    )
