-- The step removes no replica, so what the search found is still known.
use Rattle.std.proofs.Common.{refl, ap, subst}
use Rattle.std.specs.Option.{option_map}
use Rattle.gc_collected.specs.Internal.Follows.{Follows}
use Rattle.gc_copy.specs.Words.{collection_in, open_state, state_of}
use Rattle.gc_model.specs.State.{State}
use Rattle.gc_model.specs.declared.step.Step.TheVariants as steps
use Rattle.gc_model.specs.declared.step.StepReply.{StepReply}
use Rattle.gc_collected.specs.Internal.KnownRoots.{KnowsRoots}
use Rattle.gc_collected.proofs.Marks.{step_knows}
use Rattle.gc_collected.proofs.collected_heap.CollectedHeap.roots.Goals as goal

pub invariant_of-self-2 : goal.invariant_of-self-2
invariant_of-self-2 c = (
  (
    c.replicate_root.ensures.belongs,
    subst (KnowsRoots c.search-missing.new.known) (ap (λ (x : StepReply × State). x.1) c.replicate_root.ensures.step)
        (step_knows c.search-missing.new.known (open_state c.self.inside.heap c.in-Some.collection) (collection_in c.in-Some.collection) steps.Roots refl (λ e. cc e) c.search-missing.ensures.knows),
    c.search-missing.ensures.compares c.self.invariant.0.2,
  ),
  λ on. c.replicate_root.ensures.follows (subst (λ o. Follows (state_of c.self.inside.heap (option_map collection_in o)) c.self.inside.watch) c.in-Some.is (c.self.invariant.1 on)),
)
