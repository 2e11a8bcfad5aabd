-- Where no object starts there is none to look at, and a word can hold the address of any other.
use Rattle.std.proofs.Common.{ap, sym, ◌∙◌}
use Rattle.gc_graph.specs.Graph.{Object}
use Rattle.std.specs.Prelude.{Option}
use Rattle.gc_graph.specs.Machine.{view_of, view_of_object}
use Rattle.gc_words.specs.Image.{objects_of}
use Rattle.gc_heap.specs.Heap.{HeapWords}
use Rattle.gc_heap.proofs.Public.{meaning}
use Rattle.gc_graph.specs.Graph.{Ref}
use Rattle.gc_concurrent.specs.Holders.{heap_in}
use Rattle.gc_concurrent.proofs.Addressing.{none_named, refer_word, start_fits}
use Rattle.gc_concurrent.proofs.commands.Commander.view_at.Goals as goal

pub returns-then-not-has_object-clause-view : goal.returns-then-not-has_object-clause-view
returns-then-not-has_object-clause-view c =
    let h : HeapWords = heap_in c.args.self.now in
    sym (ap (λ (o : Option Object). view_of_object o) (none_named h.space.words c.args.a.0 (sym c.has_object.ensures ∙ c.if-not-has_object.true)))

pub encode-requires : goal.encode-requires
encode-requires c =
    let h : HeapWords = heap_in c.args.self.now in
    start_fits h.space c.args.a.0 c.args.self.now.sound.space (sym c.has_object.ensures ∙ c.if-not-has_object.false)

pub view-requires : goal.view-requires
view-requires c =
    let h : HeapWords = heap_in c.args.self.now in
    refer_word h.space.words c.args.a.0 c.encode.result c.encode.ensures.read_back (sym c.has_object.ensures ∙ c.if-not-has_object.false)

pub returns-clause-view : goal.returns-clause-view
returns-clause-view c =
    let h : HeapWords = heap_in c.args.self.now in
    c.view.ensures.value ∙ ap (view_of (objects_of h.space.words)) (meaning c.encode.result (Ref c.args.a.0) c.encode.ensures.read_back)
