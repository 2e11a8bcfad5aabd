-- The field words of a raw object are its numbers. It does not lie at 0, where no object is.
use Rattle.std.proofs.Common.{◌≡◌, true, map, Some, ap, sym, ◌∙◌}
use Rattle.std.specs.Bool.{then_some}
use Rattle.gc_graph.specs.Graph.{number_of}
use Rattle.gc_heap.specs.Heap.{graph_in}
use Rattle.gc_heap.specs.Raws.{numbers_in}
use Rattle.gc_words.specs.Word.{field_value}
use Rattle.gc_collected.proofs.Texts.{object_above, same_numbers}
use Rattle.gc_collected.proofs.numbers.raw_object.Goals as goal

pub returns-then-is_raw-clause-numbers : goal.returns-then-is_raw-clause-numbers
returns-then-is_raw-clause-numbers c =
    let header = c.in_ok-object.header in
    let words = c.in_ok-object.numbers.now in
    let raw : header.raw ≡ true = sym c.is_raw.ensures ∙ c.if-is_raw.true in
    sym (
    ap numbers_in (sym c.in_ok-object.ensures.is)
    ∙ ap (λ b. then_some b (map number_of (map (field_value header) words))) raw
    ∙ ap Some (same_numbers words header raw)
    )

pub returns-then-is_raw-clause-apart : goal.returns-then-is_raw-clause-apart
returns-then-is_raw-clause-apart c =
    let heap = c.args.heap.now in
    object_above (graph_in heap) c.args.s c.in_ok-object.object.0 _ _ (c.heaps_have_addresses_as_names.ensures.graph heap c.space.ensures.sound).laid c.in_ok-object.ensures.target c.in_ok-object.ensures.is
