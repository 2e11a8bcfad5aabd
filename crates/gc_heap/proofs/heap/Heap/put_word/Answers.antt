-- The object has this header, so one written word is what the machine's `Put` of its value leaves.
use Rattle.std.proofs.Common.{◌≡◌, Some, sym, ◌∙◌, ap, subst}
use Rattle.gc_graph.specs.Graph.{Ref, root}
use Rattle.gc_heap.specs.contracts.heap.Heap.{the_view}
use Rattle.gc_words.specs.Closed.{IsFieldWord}
use Rattle.gc_words.specs.Image.{header_at}
use Rattle.gc_heap.specs.Heap.{HeapWords, graph_in}
use Rattle.gc_words.proofs.Public.{field_within}
use Rattle.gc_heap.proofs.Filling.{Writes, writes}
use Rattle.gc_heap.proofs.heap.Heap.put_word.Goals as goal

pub set_field-requires : goal.set_field-requires
set_field-requires c = field_within c.self.inside.space.words c.args.object.0 c.args.i c.args.header c.self.invariant.space.walked (ap (λ (g : HeapWords). header_at g.space.words c.args.object.0) c.self.view_is ∙ c.requires.header) c.requires.field

-- the heap after the write
written : (c : goal.After-set_field) → Writes c.args.self.now c.args.p c.args.object.0 c.args.i c.args.word c.args.header (record (the_view c.self.inside) { space = c.set_field.new.self })
written c =
    let h : HeapWords = the_view c.self.inside in
    subst (λ g. Writes g c.args.p c.args.object.0 c.args.i c.args.word c.args.header (record { space = c.set_field.new.self; roots = h.roots; mutators = h.mutators })) c.self.view_is
    (subst (λ s. Writes h c.args.p c.args.object.0 c.args.i c.args.word c.args.header (record { space = s; roots = h.roots; mutators = h.mutators })) (sym c.set_field.ensures.words)
    (writes h c.args.p c.args.object.0 c.args.i c.args.word c.args.header c.self.invariant
    (subst (λ (g : HeapWords). root (graph_in g) c.args.p ≡ Ref c.args.object.0) (sym c.self.view_is) c.requires.target)
    (subst (λ (g : HeapWords). header_at g.space.words c.args.object.0 ≡ Some c.args.header) (sym c.self.view_is) c.requires.header)
    c.requires.field
    (subst (λ (g : HeapWords). IsFieldWord g.space.words c.args.header c.args.word) (sym c.self.view_is) c.requires.word)))

pub invariant_of-self : goal.invariant_of-self
invariant_of-self c = (written c).heap

pub returns-clause-puts : goal.returns-clause-puts
returns-clause-puts c = (written c).puts

pub returns-clause-headers : goal.returns-clause-headers
returns-clause-headers c = (written c).headers

pub returns-clause-words : goal.returns-clause-words
returns-clause-words c = (written c).words

pub returns-clause-sound : goal.returns-clause-sound
returns-clause-sound c = (written c).heap
