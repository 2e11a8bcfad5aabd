-- A turn counts one more answer of the history, and the counts of a part of a history fit their type as those of all do.
use Rattle.std.proofs.Common.{◌≡◌, ◌+◌, ◌<◌, ◌^◌, List, length, sym, ap, ◌∙◌, subst, arith, rules}
use Rattle.gc_model.specs.State.{heap_end}
use Rattle.gc_words.specs.Space.{free_in, end_of}
use Rattle.gc_graph.specs.Machine.{Roomy}
use Rattle.gc_world.specs.World.{present}
use Rattle.gc_world.specs.History.{IsHistory, answers_of}
use Rattle.gc_world.specs.declared.entry.Entry.{Entry}
use Rattle.gc_trace.specs.Report.{report_of}
use Rattle.gc_trace.specs.Internal.Report.{FitsU64}
use Rattle.std.proofs.lemmas.List.{take_all}
use Rattle.gc_trace.proofs.ReportCounts.{none_counted, next_counted, front_fits}
use Rattle.gc_trace.proofs.SpaceEnds.{same_end}
use Rattle.gc_trace.proofs.report.report_of.Goals as goal

pub loop-entry-init : goal.loop-entry-init
loop-entry-init c =
    let world = c.args.world.now in
    let heap = c.heap.result.now in
    let sound = c.space.ensures.sound in
    let state = c.runs_keep_states.ensures.states world.size world.mutators world.entries c.history-entry-items.ensures.history in
    let end : end_of heap.space ≡ heap_end (present world) = same_end heap (present world) sound (c.heaps_have_addresses_as_names.ensures.graph heap sound) state c.heap.ensures in
    let free : free_in heap.space ≡ (present world).heap.free = ap (λ (r : Roomy). r.free) c.heap.ensures in
    let space : c.space.result.now ≡ heap.space = c.space.ensures.value in
    none_counted c.of_space-report.result (end_of c.space.result.now) (free_in c.space.result.now) (present world) c.of_space-report.ensures (ap end_of space ∙ end) (ap free_in space ∙ free)

pub count-requires : goal.count-requires
count-requires c =
    let world = c.args.world.now in
    let items = c.history-entry-items.result.now in
    let i = c.loop-entry.entry-index in
    let history = subst (IsHistory world.size world.mutators) (sym c.history-entry-items.ensures.entries) c.history-entry-items.ensures.history in
    let small : length items < 2 ^ 64 = search rules in
    rw c.answer.ensures (subst FitsU64 (sym (next_counted items i c.entry-item.result c.loop-entry.report (present world) c.loop-entry-test.true c.entry-item.is c.loop-entry.invariant)) (front_fits world.size world.mutators items (i + 1) (present world) history small))

pub loop-entry-preserved : goal.loop-entry-preserved
loop-entry-preserved c =
    (rw c.answer.ensures at c.count.ensures)
    ∙ next_counted c.history-entry-items.result.now c.loop-entry.entry-index c.entry-item.result c.loop-entry.report (present c.args.world.now) c.loop-entry-test.true c.entry-item.is c.loop-entry.invariant

pub returns : goal.returns
returns c =
    let items = c.history-entry-items.result.now in
    c.loop-entry.invariant
    ∙ ap (λ (front : List Entry). report_of (answers_of front) (present c.args.world.now)) (take_all c.loop-entry.entry-index items (omega arith) ∙ c.history-entry-items.ensures.entries)
