-- The monitor forgets the replicas together with the collection, and the links that stay are not above the next mark.
use Rattle.std.proofs.Common.{◌≡◌, ◌∙◌, refl, sym, ap, subst}
use Rattle.std.specs.Option.{option_map}
use Rattle.gc_model.specs.State.{State}
use Rattle.gc_model.specs.Steps.{collect}
use Rattle.gc_model.specs.declared.step.Step.TheVariants as steps
use Rattle.gc_model.specs.declared.step.StepReply.{StepReply}
use Rattle.gc_model.specs.declared.step.StepReply.TheVariants.{Dropped}
use Rattle.gc_copy.specs.Words.{collection_in, idle_state, open_state, state_of}
use Rattle.gc_collected.specs.Internal.CollectedHeap.{Fits}
use Rattle.gc_collected.specs.Internal.Follows.{Follows}
use Rattle.gc_collected.specs.Internal.KnownRoots.{KnowsRoots}
use Rattle.gc_collected.proofs.Core.{core_is}
use Rattle.gc_collected.proofs.Marks.{step_knows}
use Rattle.gc_collected.proofs.Monitor.FollowsEnds.{follows_dropped}
use Rattle.gc_collected.proofs.collected_heap.CollectedHeap.give_up.Goals as goal

pub invariant_of-self-2 : goal.invariant_of-self-2
invariant_of-self-2 c =
    let heap = c.self.inside.heap in
    let new = c.end-room.new.heap in
    let was : open_state heap c.in-Some.collection ≡ state_of heap (option_map collection_in c.self.inside.collection) = ap (λ o. state_of heap (option_map collection_in o)) (sym c.in-Some.is ∙ c.take.ensures.value) in
    let knows : KnowsRoots c.self.inside.known (idle_state new) = subst (KnowsRoots c.self.inside.known) (ap (λ (x : StepReply × State). x.1) c.end-room.ensures.step)
    (step_knows c.self.inside.known (open_state heap c.in-Some.collection) (collection_in c.in-Some.collection) steps.Drop refl (λ e. cc) (subst (KnowsRoots c.self.inside.known) (sym was) (c.self.invariant.0).1)) in (
      (
        subst (λ o. Fits c.end-room.result.1 new o) (sym c.take.ensures.after) c.end-room.ensures.links,
        subst (λ o. KnowsRoots c.self.inside.known (state_of new (option_map collection_in o))) (sym c.take.ensures.after) knows,
        (c.self.invariant.0).2,
      ),
      λ on. subst (λ o. Follows (state_of new (option_map collection_in o)) c.dropped.new.self) (sym c.take.ensures.after)
          (follows_dropped c.args.self.now.core (idle_state new) Dropped c.self.inside.watch c.dropped.new.self c.is_sound.ensures.heap c.is_sound.ensures.open
          (subst (λ (s : State). collect s steps.Drop ≡ (Dropped, idle_state new)) (was ∙ core_is c.self.view_is) c.end-room.ensures.step) c.dropped.ensures.stays c.dropped.ensures.freed (subst (λ (s : State). Follows s c.self.inside.watch) (core_is c.self.view_is) (c.self.invariant.1 on))),
    )
