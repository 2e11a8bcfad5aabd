-- The monitor is told of the replica that the step placed; any other reply changes nothing.
use Rattle.std.proofs.Common.{refl, ap, sym, subst, ◌∙◌}
use Rattle.gc_words.specs.Image.{Image}
use Rattle.gc_model.specs.declared.step.StepReply.{StepReply}
use Rattle.gc_copy.specs.Words.{collection_in, open_state}
use Rattle.gc_collected.proofs.Monitor.Follows.{follows_same}
use Rattle.gc_collected.proofs.Monitor.FollowsSteps.{follows_roots}
use Rattle.gc_collected.proofs.Monitor.SameSteps.{roots_or_same}
use Rattle.gc_collected.specs.Internal.Beside.{AreOld}
use Rattle.gc_collected.proofs.barrier.replicate_root.Goals as goal

pub returns-in_default-clause-follows : goal.returns-in_default-clause-follows
returns-in_default-clause-follows c =
    let s = open_state c.args.heap.now c.args.collection.now in
    let s' = open_state c.replicate_root-reply.new.heap c.replicate_root-reply.new.self in
    follows_same s s' c.args.watch.now (roots_or_same s s' c.replicate_root-reply.result c.replicate_root-reply.ensures.step c.in_default.not-Copied)

pub returns-clause-follows : goal.returns-clause-follows
returns-clause-follows c = λ f.
    let s = open_state c.args.heap.now c.args.collection.now in
    let s' = open_state c.replicate_root-reply.new.heap c.replicate_root-reply.new.self in
    let words = c.words.ensures.value ∙ ap (λ x. x.words) c.space.ensures.value in
    follows_roots s s' (collection_in c.args.collection.now) (collection_in c.replicate_root-reply.new.self) c.words.result.now _ c.are_shown.ensures.heap c.are_shown.ensures.opened c.are_shown-2.ensures.opened refl refl
    (subst (AreOld s') (sym words) c.are_shown-2.ensures.old) (ap (λ (image : Image). image.words) c.new_image.ensures.words ∙ c.are_shown-2.ensures.new) c.args.watch.now f c.placed.new.self
    (c.replicate_root-reply.ensures.step ∙ ap (λ (r : StepReply). (r, s')) c.in-Copied.is) c.placed.ensures.stays c.placed.ensures.placed c.placed.ensures.copied
