-- A pop is a copy, and then a nil.
use Rattle.std.proofs.Common.{refl, inr, ◌-◌}
use Rattle.gc_graph.specs.declared.command.Op.TheVariants.{Move, Nil}
use Rattle.gc_heap.specs.Places.{root_at}
use Rattle.gc_concurrent.specs.Holders.{heap_in}
use Rattle.gcflip_beside_c.specs.Bulk.{extra_place}
use Rattle.gcflip_beside_c.proofs.Frames.{two_done}
use Rattle.gcflip_beside_c.proofs.frame.pop.Goals as goal

pub returns-clause-step : goal.returns-clause-step
returns-clause-step c =
    let last = extra_place (c.args.frame.now.top - 1) in
    inr (
      c.if-top-frame.false,
      refl,
      two_done (heap_in c.args.commander.now) (heap_in c.copy_root-moved.new.self) (heap_in c.nil_root-cleared.new.self)
          (Move (root_at c.args.d) (root_at last)) (Nil (root_at last)) c.copy_root-moved.result c.nil_root-cleared.result (λ none. none) (λ none. none) refl refl
          c.copy_root-moved.new.self.sound c.nil_root-cleared.new.self.sound c.copy_root-moved.ensures.step c.nil_root-cleared.ensures.step,
    )
