-- A flip of small spaces leaves a certified pair of small images, so the pair that is kept is one.
use Rattle.gc_world.proofs.Sizes.{kept_if}
use Rattle.gc_world.proofs.world.perform.Goals as goal

pub returns-clause-certified : goal.returns-clause-certified
returns-clause-certified g c = kept_if c.args.heap.now.core c.collect.result c.args.heap.now.beside.pair c.collect.new.self.beside.pair c.requires.small c.collect.ensures.pair c.collect.ensures.sound
