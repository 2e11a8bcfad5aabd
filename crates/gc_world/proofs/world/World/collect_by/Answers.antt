-- The step with its reply continues the history, and the spaces of a world are small enough for a text.
use Rattle.std.proofs.Common.{subst, refl}
use Rattle.gc_world.specs.Internal.World.{IsWorld}
use Rattle.gc_world.proofs.Sizes.{world_within}
use Rattle.gc_world.proofs.Worlds.{collected}
use Rattle.gc_world.proofs.world.World.collect_by.Goals as goal

pub invariant_of-self-2 : goal.invariant_of-self-2
invariant_of-self-2 g c =
    collected c.self.inside.heap.core c.perform.new.heap.core c.args.self.now _ c.args.step c.in_ok-reply.reply c.args.useful (subst (IsWorld c.self.inside.heap.core) c.self.view_is c.self.invariant) c.requires.step c.requires.useful c.in_ok-reply.ensures.step
    (rw (c.push_reserved.ensures.items, c.of_step.ensures, c.make_room.ensures.items, c.perform.ensures.mutators, ← c.self.view_is) refl) (c.in_ok-reply.ensures.certified (c.self.invariant).kept)

pub perform-requires-clause-small : goal.perform-requires-clause-small
perform-requires-clause-small g c = world_within _ _ c.self.invariant
