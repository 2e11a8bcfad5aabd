-- A flip by other roots leaves a row whose words are no twins.
use Rattle.std.proofs.Common.{refl, sym, subst}
use Rattle.gc_model.specs.declared.step.StepReply.TheVariants.{Flipped}
use Rattle.gc_copy.specs.Words.{collection_in, idle_state, open_state}
use Rattle.gc_roots.specs.Twins.{RootRow, KeepsTwins}
use Rattle.gc_roots.proofs.Public.{expired_keeps}
use Rattle.gc_collected.proofs.flipping.carry_out.Goals as goal

pub returns-in-Whole-clause-keeps : goal.returns-in-Whole-clause-keeps
returns-in-Whole-clause-keeps c =
    subst (λ (row : RootRow). KeepsTwins row (idle_state c.leave_room.new.heap)) (sym c.expire.ensures)
    (expired_keeps c.args.twins.now (open_state c.args.heap.now c.args.collection) (idle_state c.leave_room.new.heap) (collection_in c.args.collection) (Flipped c.leave_room.result) refl c.leave_room.ensures.mutators c.leave_room.ensures.step c.requires.done c.requires.keeps)

pub returns-in-Pair-clause-keeps : goal.returns-in-Pair-clause-keeps
returns-in-Pair-clause-keeps c =
    subst (λ (row : RootRow). KeepsTwins row (idle_state c.leave_pair-pairs.new.heap)) (sym c.expire-in-Pair.ensures)
    (expired_keeps c.args.twins.now (open_state c.args.heap.now c.args.collection) (idle_state c.leave_pair-pairs.new.heap) (collection_in c.args.collection) (Flipped c.leave_pair-pairs.result.0) refl c.leave_pair-pairs.ensures.mutators c.leave_pair-pairs.ensures.step c.requires.done c.requires.keeps)
