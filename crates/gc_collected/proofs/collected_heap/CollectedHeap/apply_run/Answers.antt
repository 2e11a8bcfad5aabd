-- What is known of the roots lasts while entries are applied, and the monitor follows.
use Rattle.std.proofs.Common.{refl, subst}
use Rattle.std.specs.Option.{option_map}
use Rattle.gc_model.specs.declared.step.Step.TheVariants as steps
use Rattle.gc_copy.specs.StepRuns.{AppliesOn}
use Rattle.gc_copy.specs.Words.{collection_in, open_state, state_of}
use Rattle.gc_collected.specs.Internal.Follows.{Follows}
use Rattle.gc_collected.specs.Internal.KnownRoots.{KnowsRoots}
use Rattle.gc_collected.proofs.Marks.{with_looks}
use Rattle.gc_collected.proofs.RunsKnow.{run_knows}
use Rattle.gc_collected.proofs.collected_heap.CollectedHeap.apply_run.Goals as goal

pub invariant_of-self-in-Some : goal.invariant_of-self-in-Some
invariant_of-self-in-Some c = (
  with_looks c.self.invariant.0.2 (
      let before = subst (λ o. KnowsRoots c.self.inside.known (state_of c.self.inside.heap (option_map collection_in o))) c.in-Some.is c.self.invariant.0.1 in (
        c.apply_run.ensures.belongs,
        run_knows c.self.inside.known (steps.Apply c.args.m) (λ e. cc e) (λ s. refl) (AppliesOn c.args.m c.args.until) c.apply_run.result.steps (open_state c.self.inside.heap c.in-Some.collection) (open_state c.apply_run.new.heap c.apply_run.new.collection) c.apply_run.result.reply
            c.apply_run.ensures.run before,
      )
      ),
  λ on. c.apply_run.ensures.follows (subst (λ o. Follows (state_of c.self.inside.heap (option_map collection_in o)) c.self.inside.watch) c.in-Some.is (c.self.invariant.1 on)),
)
