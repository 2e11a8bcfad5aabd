-- A watch that goes along with the open collection watches the words of the two images that a flip compares.
use Rattle.gc_collected.proofs.Core.{core_is}
use Rattle.gc_collected.proofs.Beside.{watched}
use Rattle.gc_collected.proofs.collected_heap.CollectedHeap.is_watched.Goals as goal

pub returns-in-Some : goal.returns-in-Some
returns-in-Some c = watched c.self.inside.epoch c.self.inside.heap c.self.inside.collection c.in-Some.collection c.args.self.now.core c.in-Some.is (core_is c.self.view_is) c.self.invariant.0.0 c.space.ensures.sound c.new_image.ensures.sound
