-- The command with its reply continues the history, as the heap's reply is the core's.
use Rattle.std.proofs.Common.{◌∙◌, ap, sym, subst, refl}
use Rattle.gc_collected.specs.Collected.{Beside}
use Rattle.gc_world.specs.World.{Past}
use Rattle.gc_world.specs.Internal.World.{IsWorld}
use Rattle.gc_world.proofs.Worlds.{commanded}
use Rattle.gc_world.proofs.world.World.mutate.Goals as goal

pub invariant_of-self-2 : goal.invariant_of-self-2
invariant_of-self-2 c =
    commanded c.self.inside.heap.core c.mutate.new.self.core c.args.self.now _ c.args.m c.args.op.now c.in_ok-reply.reply (subst (IsWorld c.self.inside.heap.core) c.self.view_is c.self.invariant) c.requires c.record_command.ensures.command c.in_ok-reply.ensures.step
    (rw (c.record_command.ensures.entry, c.make_room.ensures.items, c.in_ok-reply.ensures.mutators, ← c.self.view_is) refl)
    (ap (λ (p : Past). p.kept) (sym c.self.view_is) ∙ ap (λ (b : Beside). b.pair) (sym c.mutate.ensures.beside))
