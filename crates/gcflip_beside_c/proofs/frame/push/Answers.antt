-- A push is one copy.
use Rattle.std.proofs.Common.{refl, inr}
use Rattle.gc_graph.specs.declared.command.Op.TheVariants.{Move}
use Rattle.gc_heap.specs.Places.{root_at}
use Rattle.gc_concurrent.specs.Holders.{heap_in}
use Rattle.gcflip_beside_c.specs.Bulk.{extra_place}
use Rattle.gcflip_beside_c.proofs.Frames.{one_done}
use Rattle.gcflip_beside_c.proofs.frame.push.Goals as goal

pub returns-clause-step : goal.returns-clause-step
returns-clause-step c =
    inr (
      c.if-top-frame.false,
      refl,
      one_done (heap_in c.args.commander.now) (heap_in c.copy_root-done.new.self) (Move (root_at (extra_place c.args.frame.now.top)) (root_at c.args.s))
          c.copy_root-done.result (λ none. none) refl c.copy_root-done.new.self.sound c.copy_root-done.ensures.step,
    )
