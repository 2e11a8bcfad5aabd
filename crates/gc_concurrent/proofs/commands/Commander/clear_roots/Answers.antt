-- A turn clears the first of the roots that are left.
use Rattle.std.proofs.Common.{◌∙◌}
use Rattle.gc_concurrent.specs.Holders.{heap_in}
use Rattle.gc_concurrent.proofs.Several.{clear_next}
use Rattle.gc_concurrent.proofs.commands.Commander.clear_roots.Goals as goal

pub loop-p-preserved : goal.loop-p-preserved
loop-p-preserved c = record {
  left = λ new rest. c.loop-p.invariant.left new (clear_next c.loop-p.p c.args.to (heap_in c.loop-p.self) (heap_in c.nil_root-done.new.self) new c.nil_root-done.result c.loop-p-test.true c.nil_root-done.new.self.sound c.nil_root-done.ensures.step rest);
  log = c.nil_root-done.ensures.log ∙ c.loop-p.invariant.log;
  cells = c.nil_root-done.ensures.cells ∙ c.loop-p.invariant.cells;
  moves = c.nil_root-done.ensures.moves ∙ c.loop-p.invariant.moves;
  begun = c.nil_root-done.ensures.begun ∙ c.loop-p.invariant.begun;
  roots = c.nil_root-done.ensures.roots ∙ c.loop-p.invariant.roots;
}
