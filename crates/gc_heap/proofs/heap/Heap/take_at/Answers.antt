-- The field's word, read as its object's header says, is the value that the machine's `Get` puts into the root.
use Rattle.std.proofs.Common.{◌≡◌, ℕ, refl, sym, ◌∙◌, ap, subst}
use Rattle.std.specs.Prelude.{slice_set}
use Rattle.gc_graph.specs.Graph.{Graph, object_of, field_of, root}
use Rattle.gc_graph.specs.Machine.{get_field, view_of}
use Rattle.gc_graph.specs.declared.reply.Reply.{Reply}
use Rattle.gc_graph.specs.declared.reply.Reply.TheVariants.{NoField, Saw}
use Rattle.gc_words.specs.Word.{value_of, field_value}
use Rattle.gc_words.specs.Closed.{IsFieldWord}
use Rattle.gc_words.proofs.Public.{closed_field_read}
use Rattle.gc_heap.specs.contracts.heap.Heap.{the_view}
use Rattle.gc_heap.specs.Heap.{HeapWords, graph_in}
use Rattle.gc_heap.proofs.Commands.{Points, points, header_is, not_there, got_no_field, got}
use Rattle.gc_heap.proofs.heap.Heap.take_at.Goals as goal
use Rattle.gc_heap.proofs.heap.Heap.take_at.Goals.{In-Some}

-- a reply and a graph are what the machine's `Get` gives
abbrev Gets : HeapWords → ℕ → ℕ → ℕ → Reply × Graph → Type 0
Gets h d s i made = let object = object_of (graph_in h).objects (root (graph_in h) s) in made ≡ get_field (graph_in h) d object (field_of object i)

-- the object that the giver refers to
giver : (c : In-Some) → Points (the_view c.self.inside) c.args.s c.in-Some.at.0
giver c = points _ _ c.args.s c.in-Some.at.0 _ c.self.view_is c.self.invariant c.requires.giver c.index-target.ensures c.in-Some.ensures

pub returns-then-not-has_field-clause-graph : goal.returns-then-not-has_field-clause-graph
returns-then-not-has_field-clause-graph c =
    subst (λ h. Gets h c.args.d c.args.s c.args.i (NoField, graph_in h)) c.self.view_is
    (got_no_field _ c.args.d c.args.s c.in-Some.at.0 c.args.i (giver (goal.at.returns-then-not-has_field-clause-graph c).In-Some) (not_there c.has_field.result _ c.has_field.ensures c.if-not-has_field.true))

pub root_word-word-requires : goal.root_word-word-requires
root_word-word-requires c =
    let p = giver (goal.at.root_word-word-requires c).In-Some in
    subst (λ g. IsFieldWord c.self.inside.space.words g c.field-field.result) (header_is _ c.args.s c.in-Some.at.0 c.header-header.result p c.header-header.ensures)
    (closed_field_read _ c.self.inside.roots.items c.in-Some.at.0 c.args.i c.field-field.result p.block c.self.invariant.closed p.found c.field-field.ensures)

pub returns-clause-graph : goal.returns-clause-graph
returns-clause-graph c =
    let h : HeapWords = the_view c.self.inside in
    let p = giver (goal.at.returns-clause-graph c).In-Some in
    let means = c.root_word-word.ensures.value ∙ ap (λ g. field_value g c.field-field.result) (sym (header_is h c.args.s c.in-Some.at.0 c.header-header.result p c.header-header.ensures)) in
    subst (λ g. Gets g c.args.d c.args.s c.args.i (Saw (view_of (graph_in g).objects (value_of c.root_word-word.result)), graph_in (record h { roots = slice_set h.roots c.args.d c.root_word-word.result }))) c.self.view_is
    (got h c.args.d c.args.s c.in-Some.at.0 c.args.i c.field-field.result c.root_word-word.result (view_of (graph_in h).objects (value_of c.root_word-word.result)) p c.field-field.ensures means refl)
