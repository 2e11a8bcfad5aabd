-- A run of one scan is the model's scan.
use Rattle.std.proofs.Common.{refl, ap, ◌∙◌}
use Rattle.gc_model.specs.State.{State}
use Rattle.gc_model.specs.declared.step.Step.TheVariants as steps
use Rattle.gc_model.specs.declared.step.StepReply.{StepReply}
use Rattle.gc_model.proofs.Public.{opened_has_room}
use Rattle.gc_copy.specs.Words.{collection_in, open_state}
use Rattle.gc_copy.proofs.Public.{one_step}
use Rattle.gc_collected.proofs.barrier.scan.Goals as goal

pub returns-clause-step : goal.returns-clause-step
returns-clause-step c = one_step steps.Scan _ c.scan_run.result.steps (open_state c.args.heap.now c.args.collection.now) (open_state c.scan_run.new.heap c.scan_run.new.collection) c.scan_run.result.reply c.scan_run.ensures.run c.scan_run.ensures.within

pub returns-clause-room : goal.returns-clause-room
returns-clause-room c larger same =
    opened_has_room (open_state c.args.heap.now c.args.collection.now) c.are_shown.ensures.heap (collection_in c.args.collection.now) c.are_shown.ensures.opened refl larger steps.Scan
    (ap (λ (x : StepReply × State). x.0) (returns-clause-step c) ∙ same)
