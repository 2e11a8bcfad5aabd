-- A turn puts the scans of one replica more behind those before.
use Rattle.std.proofs.Common.{◌∙◌, arith}
use Rattle.gc_copy.specs.Words.{open_state}
use Rattle.gc_model.specs.declared.step.Step.TheVariants.{Scan}
use Rattle.gc_copy.specs.StepRuns.{ScansOn}
use Rattle.gc_copy.proofs.StepRuns.{run_goes_on, runs_join}
use Rattle.gc_copy.proofs.collection.Collection.scan_run.Goals as goal

pub loop-run-preserved : goal.loop-run-preserved
loop-run-preserved c =
    let on = c.scans_on.ensures c.if-scans_on.true in
    let first = run_goes_on Scan (ScansOn c.args.until) c.loop-run.run.steps (open_state c.args.heap.now c.args.self.now) (open_state c.loop-run.heap c.loop-run.self) c.loop-run.run.reply c.loop-run.invariant.0 on.0 (on.1, on.2) in (
      runs_join Scan (ScansOn c.args.until) c.loop-run.run.steps c.scan_replica-next.result.steps (open_state c.args.heap.now c.args.self.now) (open_state c.loop-run.heap c.loop-run.self) (open_state c.scan_replica-next.new.heap c.scan_replica-next.new.self)
          c.scan_replica-next.result.reply first c.scan_replica-next.ensures.run,
      omega (arith, c.scan_replica-next.ensures.within, c.loop-run-test.true),
      c.scan_replica-next.ensures.belongs,
      c.scan_replica-next.ensures.epoch ∙ c.loop-run.invariant.3,
      c.scan_replica-next.ensures.mutators ∙ c.loop-run.invariant.4,
    )
