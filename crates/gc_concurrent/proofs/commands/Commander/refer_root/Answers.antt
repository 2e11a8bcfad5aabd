-- A root takes the word of the address at which an object starts.
use Rattle.std.proofs.Common.{◌∙◌, is_some, ap, sym}
use Rattle.std.specs.Prelude.{slice_set}
use Rattle.gc_graph.specs.Graph.{Ref, lookup}
use Rattle.gc_words.specs.Space.{SpaceWords}
use Rattle.gc_heap.specs.Heap.{HeapWords, graph_in}
use Rattle.gc_heap.proofs.Public.{meaning}
use Rattle.gc_concurrent.specs.Ends.{one_heap}
use Rattle.gc_concurrent.specs.Holders.{beginning_of, heap_in}
use Rattle.gc_concurrent.proofs.Addressing.{began_referred, began_still, refer_done, refer_missed, start_fits, start_named}
use Rattle.gc_concurrent.proofs.commands.Commander.refer_root.Goals as goal

pub returns-then-not-has_object-clause-step : goal.returns-then-not-has_object-clause-step
returns-then-not-has_object-clause-step c = refer_missed (heap_in c.args.self.now) c.args.d c.args.a.0 (sym c.has_object.ensures ∙ c.if-not-has_object.true)

pub returns-then-not-has_object-clause-begun : goal.returns-then-not-has_object-clause-begun
returns-then-not-has_object-clause-begun c =
    let h : HeapWords = heap_in c.args.self.now in
    began_still (beginning_of c.args.self.now) (is_some (lookup (graph_in h).objects c.args.a.0)) (start_named h.space.words c.args.a.0 ∙ sym c.has_object.ensures ∙ c.if-not-has_object.true)

pub encode-requires : goal.encode-requires
encode-requires c =
    let h : HeapWords = heap_in c.args.self.now in
    start_fits h.space c.args.a.0 c.args.self.now.sound.space (sym c.has_object.ensures ∙ c.if-not-has_object.false)

pub returns-clause-step : goal.returns-clause-step
returns-clause-step c =
    let h : HeapWords = heap_in c.args.self.now in
    refer_done h (one_heap c.refer.new.self.seat.me.0.mine.space (slice_set h.roots c.args.d c.encode.result)) c.args.d c.args.a.0 c.encode.result
    (ap (λ (s : SpaceWords). one_heap s (slice_set h.roots c.args.d c.encode.result)) c.refer.ensures.space) (meaning c.encode.result (Ref c.args.a.0) c.encode.ensures.read_back) (sym c.has_object.ensures ∙ c.if-not-has_object.false)

pub returns-clause-begun : goal.returns-clause-begun
returns-clause-begun c =
    let h : HeapWords = heap_in c.args.self.now in
    c.refer.ensures.base ∙ began_referred (beginning_of c.args.self.now) (is_some (lookup (graph_in h).objects c.args.a.0)) (start_named h.space.words c.args.a.0 ∙ sym c.has_object.ensures ∙ c.if-not-has_object.false)
