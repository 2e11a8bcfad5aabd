-- The value of a root is written.
use Rattle.std.proofs.Common.{◌≡◌, ap, ◌∙◌, refl, sym, subst}
use Rattle.std.specs.Prelude.{slice_index}
use Rattle.gc_graph.specs.Graph.{Graph, Value, object_of, field_of, root}
use Rattle.gc_graph.specs.Machine.{put_field}
use Rattle.gc_words.specs.Word.{value_of}
use Rattle.gc_words.specs.Closed.{IsRootWord}
use Rattle.gc_heap.specs.Heap.{HeapWords, graph_in}
use Rattle.gc_heap.proofs.Public.{read_root, root_word, at_root}
use Rattle.gc_model.specs.Belonging.{RefersTo}
use Rattle.gc_concurrent.specs.Holders.{heap_in}
use Rattle.gc_concurrent.specs.Unreachable.{MayBeCopied}
use Rattle.gc_concurrent.proofs.Keeping.{root_refers_to}
use Rattle.gc_concurrent.proofs.commands.Commander.put.Goals as goal
use Rattle.gc_concurrent.proofs.commands.Commander.put.Goals.{After-index-value}

abbrev heap : After-index-value → HeapWords
heap c = heap_in c.args.self.now

read : (c : After-index-value) → c.index-value.result.now ≡ slice_index (heap c).roots c.args.t
read c = read_root (heap c) (heap c).roots c.args.t _ refl c.requires.giver c.index-value.ensures

value : (c : After-index-value) → root (graph_in (heap c)) c.args.t ≡ value_of c.index-value.result.now
value c = at_root (heap c) c.args.t c.index-value.result.now (read c)

pub write-requires-clause-word : goal.write-requires-clause-word
write-requires-clause-word c = let e = (goal.at.write-requires-clause-word c).After-index-value in
    subst (IsRootWord (heap e).space.words) (sym (read e)) (root_word (heap e) c.args.t c.args.self.now.sound c.requires.giver)

pub write-requires-clause-allowed : goal.write-requires-clause-allowed
write-requires-clause-allowed c = let e = (goal.at.write-requires-clause-allowed c).After-index-value in
    let allowed = MayBeCopied c.args.self.now.mutator.seat.me.0.mine.base in
    subst (RefersTo allowed) (value e) (root_refers_to allowed (graph_in (heap e)) c.args.t c.args.self.now.leads)

pub returns-clause-graph : goal.returns-clause-graph
returns-clause-graph c = let e = (goal.at.returns-clause-graph c).After-index-value in
    let g : Graph = graph_in (heap e) in
    let object = object_of g.objects (root g c.args.s) in
    c.write.ensures.graph ∙ ap (λ (v : Value). put_field g (root g c.args.s) object (field_of object c.args.i) c.args.i v) (sym (value e))
