-- Scanning removes no replica, so the roots that are known to have one still have it.
use Rattle.std.proofs.Common.{refl, ap, subst}
use Rattle.std.specs.Option.{option_map}
use Rattle.gc_model.specs.State.{State}
use Rattle.gc_copy.specs.Words.{collection_in, open_state, state_of}
use Rattle.gc_model.specs.declared.step.Step.TheVariants as steps
use Rattle.gc_model.specs.declared.step.StepReply.{StepReply}
use Rattle.gc_collected.specs.Internal.Follows.{Follows}
use Rattle.gc_collected.specs.Internal.KnownRoots.{KnowsRoots}
use Rattle.gc_collected.proofs.Marks.{step_knows, with_looks}
use Rattle.gc_collected.proofs.collected_heap.CollectedHeap.scan.Goals as goal

pub invariant_of-self-in-Some : goal.invariant_of-self-in-Some
invariant_of-self-in-Some c = (
  with_looks c.self.invariant.0.2 (
      let before = subst (λ o. KnowsRoots c.self.inside.known (state_of c.self.inside.heap (option_map collection_in o))) c.in-Some.is c.self.invariant.0.1 in (
        c.scan.ensures.belongs,
        subst (KnowsRoots c.self.inside.known) (ap (λ (x : StepReply × State). x.1) c.scan.ensures.step)
            (step_knows c.self.inside.known (open_state c.self.inside.heap c.in-Some.collection) (collection_in c.in-Some.collection) steps.Scan refl (λ e. cc e) before),
      )
      ),
  λ on. c.scan.ensures.follows (subst (λ o. Follows (state_of c.self.inside.heap (option_map collection_in o)) c.self.inside.watch) c.in-Some.is (c.self.invariant.1 on)),
)
