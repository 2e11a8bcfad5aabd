-- An object starts above 0 and ends within the space, so a word holds its address; and that word means the reference.
use Rattle.std.proofs.lemmas.Grind.{common_steps}
use Rattle.std.proofs.Common.{◌≡◌, ◌+◌, ◌≤◌, length, Some, subst, arith}
use Rattle.gc_words.specs.Image.{Block, block_at}
use Rattle.gc_words.proofs.Public.{StandsIn, graph_root, some_of, stands_in}
use Rattle.gc_heap.specs.Heap.{HeapWords, IsHeap}
use Rattle.gc_heap.proofs.Views.{meaning}
use Rattle.gc_heap.proofs.heap.Heap.refer_root.Goals as goal

pub encode-requires : goal.encode-requires
encode-requires c =
    let h : HeapWords = c.args.self.now in
    let heap : IsHeap h = subst IsHeap c.self.view_is c.self.invariant in
    let b : (b : Block) × (block_at h.space.words c.args.a.0 ≡ Some b) = some_of (block_at h.space.words c.args.a.0) c.requires.start in
    let s : StandsIn h.space.words c.args.a.0 b.0 = stands_in h.space.words c.args.a.0 b.0 heap.space.walked b.1 in
    let fits : c.args.a.0 + (b.0.header.len + 2) ≤ length h.space.words = s.fits in
    let end : length h.space.words ≤ h.space.size = heap.space.end_high in
    let high : h.space.size ≤ 4294967295 = heap.space.size_high in
    (s.low, omega arith)

pub returns-clause-graph : goal.returns-clause-graph
returns-clause-graph c = grind (arith, common_steps, graph_root, meaning)
