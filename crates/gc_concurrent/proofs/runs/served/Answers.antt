-- `Full` changes nothing, and a safepoint keeps what is shown.
use Rattle.std.proofs.lemmas.Grind.{common_steps}
use Rattle.std.proofs.Common.{◌≡◌, true, refl, sym, ◌∙◌, subst, arith}
use Rattle.gc_graph.specs.Runs.{is_full}
use Rattle.gc_concurrent.specs.Holders.{heap_in}
use Rattle.gc_concurrent.specs.Law.{Shows}
use Rattle.gc_concurrent.proofs.Running.{shows_follow, shows_full}
use Rattle.gc_concurrent.proofs.runs.served.Goals as goal

pub loop-init : goal.loop-init
loop-init g c = record { told = refl; shows = λ graph s. s }

pub loop-preserved : goal.loop-preserved
loop-preserved g c =
    let full : is_full c.in-Ok.both.1 ≡ true = grind (arith, common_steps, c.ne.ensures, c.if-ne.false) in
    record {
      told = c.in-Ok.ensures.told ∙ c.loop.invariant.told;
      shows = λ graph s. shows_follow graph (heap_in c.in-Ok.both.0.commander) (heap_in c.poll-runner.result.commander) c.poll-runner.result.commander.sound
          (shows_full graph (heap_in c.loop.runner.commander) (heap_in c.in-Ok.both.0.commander) c.args.op.now c.in-Ok.both.1 c.in-Ok.ensures.does full (c.loop.invariant.shows graph s)) c.poll-runner.ensures.heap;
    }

pub returns-in-Err-clause-shows : goal.returns-in-Err-clause-shows
returns-in-Err-clause-shows g c graph s = subst (Shows graph) (sym c.in-Err.ensures.same) (c.loop.invariant.shows graph s)
