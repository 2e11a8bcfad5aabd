-- The slot holds the value that was found, so a look at it sees what the reply to the `Get` shows.
use Rattle.std.proofs.Common.{◌<◌, length, subst}
use Rattle.gc_collected.proofs.GetSeen.{get_shown}
use Rattle.gc_collected.proofs.collected_heap.CollectedHeap.get.Goals as goal

pub returns-in_default-clause-step : goal.returns-in_default-clause-step
returns-in_default-clause-step c =
    let got = c.fetch.ensures.fetches in
    get_shown c.args.self.now.core c.fetch.new.self.core c.args.m c.args.i c.args.d c.args.s got.0 c.look.result c.fetch.result (subst (λ p. p < length c.args.self.now.core.heap.graph.roots) c.place.ensures.place c.place.ensures.root) got.1 got.2 c.look.ensures c.in_default.not-NoObject c.in_default.not-NoField
