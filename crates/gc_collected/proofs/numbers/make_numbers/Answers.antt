-- The new object is made, and then its fields are written, from other objects that are as before.
use Rattle.std.proofs.Common.{◌≡◌, ap, sym, ◌∙◌}
use Rattle.gc_heap.specs.Heap.{graph_in}
use Rattle.gc_words.specs.Space.{end_of}
use Rattle.gc_collected.specs.Internal.CollectedHeap.{state_in}
use Rattle.gc_collected.specs.Internal.Numbered.{Sources, numbers_given, sources_at}
use Rattle.gc_collected.proofs.Numbered.{numbers_made, sources_made}
use Rattle.gc_collected.proofs.numbers.make_numbers.Goals as goal

pub returns-clause-step : goal.returns-clause-step
returns-clause-step g c =
    let heap = c.args.heap.now in
    let made = c.new_raw_in-made.new.heap in
    let o = c.args.collection.now in
    let names = g.R.NumberRow.names c.args.row.now in
    let sources = sources_at (graph_in heap) names in
    let same : ◌≡◌ {A = Sources} (sources_at (graph_in made) names) sources
    = sources_made (graph_in heap) (graph_in made) c.args.d c.args.kind c.count.result (end_of heap.space) names (c.new_raw_in-made.ensures.made c.in_default.not-Full) c.requires.apart in
    numbers_made (state_in heap o) (state_in made o) (state_in c.write_numbers.new.heap c.write_numbers.new.collection) c.args.m c.args.kind c.count.result c.args.d (g.R.NumberRow.numbers c.args.row.now sources) c.new_raw_in-made.result
    (c.count.ensures sources c.requires.row) (c.new_raw_in-made.ensures.step c.args.m) c.in_default.not-Full
    (ap (λ (s : Sources). numbers_given (state_in made o) c.args.m c.args.d 0 (g.R.NumberRow.numbers c.args.row.now s)) (sym same) ∙ c.write_numbers.ensures.step)

pub returns-clause-fits : goal.returns-clause-fits
returns-clause-fits g c = λ epoch fits. c.write_numbers.ensures.fits epoch (c.new_raw_in-made.ensures.fits epoch fits)
