-- A chosen `Apply` names a mutator of the heap, because the heap has a log for each.
use Rattle.std.proofs.Common.{Option, sym, subst}
use Rattle.std.specs.Prelude.{IfSome}
use Rattle.gc_model.specs.Runs.{IsStep}
use Rattle.gc_model.specs.declared.step.Step.{Step}
use Rattle.gc_collected.proofs.Core.{core_is}
use Rattle.gc_collected.proofs.FirstLog.{step_is_one}
use Rattle.gc_collected.proofs.collected_heap.CollectedHeap.choose_step.Goals as goal
use Rattle.gc_collected.proofs.collected_heap.CollectedHeap.choose_step.Goals.{in-Missing, in-AllKnown, in-Unfinished}

pub returns-then-all_known-clause-step : goal.returns-then-all_known-clause-step
returns-then-all_known-clause-step c =
    subst (λ (o : Option Step). IfSome o (IsStep c.args.self.now.core.mutators)) (sym c.at_once-then-all_known.ensures.1)
    (step_is_one c.self.inside.epoch c.self.inside.heap c.self.inside.collection c.in-Some.collection c.args.self.now.core c.step_after_roots.result (core_is c.self.view_is) c.in-Some.is c.self.invariant.0.0 c.step_after_roots.ensures)

pub returns-clause-step : goal.returns-clause-step
returns-clause-step c = elim c.match-found.branch [
  | in-Missing w ↦ subst (λ (o : Option Step). IfSome o (IsStep c.args.self.now.core.mutators)) (sym w.step-is) tt
  | in-AllKnown w ↦ subst (λ (o : Option Step). IfSome o (IsStep c.args.self.now.core.mutators)) (sym w.step-is)
      (step_is_one c.self.inside.epoch c.self.inside.heap c.self.inside.collection c.in-Some.collection c.args.self.now.core w.step_after_roots-in-AllKnown.result (core_is c.self.view_is) c.in-Some.is c.self.invariant.0.0 w.step_after_roots-in-AllKnown.ensures)
  | in-Unfinished w ↦ subst (λ (o : Option Step). IfSome o (IsStep c.args.self.now.core.mutators)) (sym w.step-is) tt
]
