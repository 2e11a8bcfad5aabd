-- The useful step is one of the heap's steps, as the first log with an entry is the log of one of its mutators.
use Rattle.gc_collected.proofs.Core.{core_is}
use Rattle.gc_collected.proofs.FirstLog.{step_is_one}
use Rattle.gc_collected.proofs.collected_heap.CollectedHeap.useful_step.Goals as goal

pub returns-clause-step : goal.returns-clause-step
returns-clause-step c = step_is_one c.self.inside.epoch c.self.inside.heap c.self.inside.collection c.in-Some.collection c.args.self.now.core c.step_after_roots.result (core_is c.self.view_is) c.in-Some.is c.self.invariant.0.0 c.step_after_roots.ensures
