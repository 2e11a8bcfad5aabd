-- A run of one scan is the model's scan.
use Rattle.std.proofs.Common.{ap, ◌∙◌, subst}
use Rattle.gc_model.specs.State.{State}
use Rattle.gc_model.specs.declared.step.StepReply.{StepReply}
use Rattle.gc_model.specs.declared.step.Step.TheVariants as steps
use Rattle.gc_copy.specs.Words.{IsCollection, open_state}
use Rattle.gc_copy.proofs.StepRuns.{one_step}
use Rattle.gc_copy.proofs.collection.Collection.scan.Goals as goal

pub returns-clause-step : goal.returns-clause-step
returns-clause-step c = one_step steps.Scan _ c.scan_replica.result.steps (open_state c.args.heap.now c.args.self.now) (open_state c.scan_replica.new.heap c.scan_replica.new.self) c.scan_replica.result.reply c.scan_replica.ensures.run c.scan_replica.ensures.within

pub returns-clause-room : goal.returns-clause-room
returns-clause-room c larger same =
    c.new_spaces_have_room.ensures c.args.heap.now c.args.self.now steps.Scan c.space.ensures.sound (subst IsCollection c.self.view_is c.self.invariant.0) c.requires larger
    (ap (λ (next : StepReply × State). next.0) (returns-clause-step c) ∙ same)
