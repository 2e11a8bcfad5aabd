-- The object is known to take the value, so one written word is what the machine's `Put` leaves, and no link changes.
use Rattle.std.proofs.Common.{◌<◌, length, sym, subst}
use Rattle.gc_heap.specs.contracts.heap.Heap.{the_view}
use Rattle.gc_heap.specs.Heap.{HeapWords}
use Rattle.gc_heap.specs.Filling.{TakesFields}
use Rattle.gc_heap.proofs.Commands.{read_root}
use Rattle.gc_heap.proofs.Filling.{Fills, fills}
use Rattle.gc_heap.proofs.heap.Heap.fill_at.Goals as goal

-- the heap after the write
filled : (c : goal.After-set_field) → Fills c.args.self.now c.args.s c.args.object.0 c.args.i c.args.t c.index.result.now (record (the_view c.self.inside) { space = c.set_field.new.self })
filled c =
    let h : HeapWords = the_view c.self.inside in
    let len = c.requires.field.0 in
    let takes : TakesFields h c.args.s c.args.object.0 len = subst (λ h. TakesFields h c.args.s c.args.object.0 len) (sym c.self.view_is) c.requires.field.1 in
    let less : c.args.t < length h.roots = subst (λ (h : HeapWords). c.args.t < length h.roots) (sym c.self.view_is) c.requires.giver in
    subst (λ g. Fills g c.args.s c.args.object.0 c.args.i c.args.t c.index.result.now (record { space = c.set_field.new.self; roots = h.roots; mutators = h.mutators })) c.self.view_is
    (subst (λ s. Fills h c.args.s c.args.object.0 c.args.i c.args.t c.index.result.now (record { space = s; roots = h.roots; mutators = h.mutators })) (sym c.set_field.ensures.words)
    (fills h c.args.s c.args.object.0 c.args.i len c.args.t c.index.result.now c.self.invariant takes c.requires.field.2 less (read_root h h.roots c.args.t _ (λ i. h.roots) less c.index.ensures)))

pub invariant_of-self : goal.invariant_of-self
invariant_of-self c = (filled c).heap

pub returns-clause-graph : goal.returns-clause-graph
returns-clause-graph c = (filled c).graph

pub returns-clause-links : goal.returns-clause-links
returns-clause-links c = (filled c).links

pub returns-clause-fields : goal.returns-clause-fields
returns-clause-fields c = (filled c).fields

pub returns-clause-sound : goal.returns-clause-sound
returns-clause-sound c = (filled c).heap
