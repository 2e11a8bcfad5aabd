-- The header is that of the object that the root refers to.
use Rattle.std.proofs.Common.{refl}
use Rattle.gc_heap.specs.Heap.{HeapWords}
use Rattle.gc_heap.proofs.Public.{points}
use Rattle.gc_concurrent.specs.Holders.{heap_in}
use Rattle.gc_concurrent.proofs.Reading.{shaped_so}
use Rattle.gc_concurrent.proofs.commands.Commander.header_at_root.Goals as goal

pub returns-clause-some : goal.returns-clause-some
returns-clause-some c =
    let h : HeapWords = heap_in c.args.self.now in
    shaped_so h c.args.s c.in_ok-at.at.0 c.header.result c.args.self.now.sound
    (points h h c.args.s c.in_ok-at.at.0 _ refl c.args.self.now.sound c.requires c.index.ensures c.in_ok-at.ensures) c.header.ensures.value
