-- A turn applies one entry more.
use Rattle.std.proofs.Common.{◌≡◌, suc, ◌+◌, ◌∙◌, subst, arith}
use Rattle.gc_model.specs.declared.step.Step.TheVariants.{Apply}
use Rattle.gc_copy.specs.StepRuns.{AppliesOn, IsApplyRun}
use Rattle.gc_copy.specs.Words.{open_state}
use Rattle.gc_copy.proofs.Public.{repeats_last, run_goes_on}
use Rattle.gc_collected.proofs.barrier.apply_run.Goals as goal

pub loop-steps-preserved : goal.loop-steps-preserved
loop-steps-preserved c =
    let s = open_state c.args.heap.now c.args.collection.now in
    let t = open_state c.loop-steps.heap c.loop-steps.collection in
    let u = open_state c.apply_log-reply-in-loop-steps.new.heap c.apply_log-reply-in-loop-steps.new.collection in
    let n = c.loop-steps.steps in
    let e = c.apply_log-reply-in-loop-steps.ensures in
    let on = c.applies_on.ensures c.if-applies_on.true in
    let more : suc n ≡ n + 1 = omega arith in
    let first = run_goes_on (Apply c.args.m) (AppliesOn c.args.m c.args.until) n s t c.loop-steps.reply c.loop-steps.invariant.0 on.0 (on.1, on.2, on.3) in (
      subst (λ k. IsApplyRun c.args.m c.args.until k s u c.apply_log-reply-in-loop-steps.result) more (repeats_last (Apply c.args.m) (AppliesOn c.args.m c.args.until) s t u n c.apply_log-reply-in-loop-steps.result first e.step),
      omega (arith, c.loop-steps-test.true),
      e.belongs,
      e.mutators ∙ c.loop-steps.invariant.3,
      λ f. e.follows (c.loop-steps.invariant.4 f),
    )
