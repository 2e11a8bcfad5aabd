-- The report of the events that were played gets the end and the free words of the last state.
use Rattle.std.proofs.Common.{◌≡◌, ◌∙◌, ap}
use Rattle.gc_graph.specs.Machine.{Roomy}
use Rattle.gc_words.specs.Space.{free_in, end_of}
use Rattle.gc_model.specs.State.{heap_end}
use Rattle.gc_trace.proofs.PlayedEvents.{report_is}
use Rattle.gc_trace.proofs.SpaceEnds.{same_end}
use Rattle.gc_trace.proofs.playing.Player.finish.Goals as goal

pub returns-clause-report : goal.returns-clause-report
returns-clause-report c s events h =
    let player = c.args.self.now in
    let heap = c.heap.result.now in
    let sound = c.space.ensures.sound in
    let space = c.space.ensures.value in
    let end : end_of heap.space ≡ heap_end player.heap.core = same_end heap player.heap.core sound (c.heaps_have_addresses_as_names.ensures.graph heap sound) c.requires.sound c.heap.ensures in
    report_is s events player.heap.core player.report c.with_space.result (end_of c.space.result.now) (free_in c.space.result.now) h.state h.counts c.with_space.ensures
    (ap end_of space ∙ end) (ap free_in space ∙ ap (λ (r : Roomy). r.free) c.heap.ensures)
