-- What is known of the roots lasts through a run of scans, and the monitor follows it.
use Rattle.std.proofs.Common.{refl, subst}
use Rattle.std.specs.Option.{option_map}
use Rattle.gc_model.specs.declared.step.Step.TheVariants as steps
use Rattle.gc_copy.specs.StepRuns.{ScansOn}
use Rattle.gc_copy.specs.Words.{collection_in, open_state, state_of}
use Rattle.gc_collected.specs.Internal.Follows.{Follows}
use Rattle.gc_collected.specs.Internal.KnownRoots.{KnowsRoots}
use Rattle.gc_collected.proofs.Marks.{with_looks}
use Rattle.gc_collected.proofs.RunsKnow.{run_knows}
use Rattle.gc_collected.proofs.collected_heap.CollectedHeap.scan_run.Goals as goal

pub invariant_of-self-in-Some : goal.invariant_of-self-in-Some
invariant_of-self-in-Some c = (
  with_looks c.self.invariant.0.2 (
      let before = subst (λ o. KnowsRoots c.self.inside.known (state_of c.self.inside.heap (option_map collection_in o))) c.in-Some.is c.self.invariant.0.1 in (
        c.scan_run.ensures.belongs,
        run_knows c.self.inside.known steps.Scan (λ e. cc e) (λ s. refl) (ScansOn c.args.until) c.scan_run.result.steps (open_state c.self.inside.heap c.in-Some.collection) (open_state c.scan_run.new.heap c.scan_run.new.collection) c.scan_run.result.reply
            c.scan_run.ensures.run before,
      )
      ),
  λ on. c.scan_run.ensures.follows (subst (λ o. Follows (state_of c.self.inside.heap (option_map collection_in o)) c.self.inside.watch) c.in-Some.is (c.self.invariant.1 on)),
)
