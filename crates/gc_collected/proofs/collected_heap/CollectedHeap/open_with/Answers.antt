-- A heap that was just opened has no links and no root but nil ones, and the monitor follows it.
use Rattle.std.proofs.Common.{◌≡◌, ◌≤◌, ℕ, List, length, refl, arith, ap, sym, ◌∙◌}
use Rattle.gc_heap.specs.Heap.{HeapWords, roomy_in}
use Rattle.gc_heap.specs.ExtraRoots.{CanOpen, opening_with}
use Rattle.gc_heap.specs.declared.options.HeapOptions.{HeapOptions}
use Rattle.gc_graph.specs.Machine.{Roomy}
use Rattle.gc_monitor.specs.Tables.{Tables}
use Rattle.gc_monitor.specs.Events.{opening_tables}
use Rattle.gc_copy.specs.Words.{idle_state}
use Rattle.gc_collected.specs.Internal.Follows.{Follows}
use Rattle.gc_collected.proofs.Monitor.Follows.{follows_opening}
use Rattle.gc_collected.proofs.Marks.{no_links, opening_knows}
use Rattle.gc_collected.proofs.collected_heap.CollectedHeap.open_with.Goals as goal

opened : (options : HeapOptions) (heap : HeapWords) (t : Tables) → CanOpen options → roomy_in heap ≡ opening_with options → heap.space.size ≡ options.size → t ≡ opening_tables options.size → Follows (idle_state heap) t
opened options heap t can is size new = follows_opening (idle_state heap) t (ap (λ (h : Roomy). h.graph.objects) is) refl (let low : 1 ≤ options.size = can.low in omega arith)
    (let free = ap (λ (h : Roomy). h.free) is in let low : 1 ≤ options.size = can.low in omega arith) (new ∙ ap opening_tables (sym size))

pub invariant_of-result : goal.invariant_of-result
invariant_of-result c =
    let twins = c.in_ok-known.ensures.twins in (
      (
        no_links c.args.options.now c.in_ok-heap.heap c.in_ok-heap.ensures.empty,
        opening_knows c.args.options.now c.in_ok-heap.heap c.in_ok-known.known _ c.in_ok-heap.ensures.empty (ap (λ (ws : List ℕ). length ws) c.roots.ensures.value) c.in_ok-known.ensures.slots twins.0 twins.1 twins.2 twins.3,
        c.in_ok-known.ensures.compares,
      ),
      λ on. opened c.args.options.now c.in_ok-heap.heap c.in_ok-watch.watch c.requires c.in_ok-heap.ensures.opening (ap (λ (h : HeapWords). h.space.size) c.in_ok-heap.ensures.empty) (c.in_ok-watch.ensures.along on),
    )
