-- The fields take their values through no root, and the slot takes that of the last field.
use Rattle.std.proofs.Common.{◌≡◌, sym, ap, ◌∙◌, arith}
use Rattle.gc_graph.specs.Slots.{place}
use Rattle.gc_graph.specs.declared.reply.Reply.{Reply}
use Rattle.gc_model.specs.State.{State}
use Rattle.gc_collected.specs.Copying.{copy_values_step}
use Rattle.gc_collected.proofs.CopiesDone.{fields_fit}
use Rattle.gc_collected.proofs.Marks.{slot_below}
use Rattle.gc_collected.proofs.ThroughSlot.{copied_through}
use Rattle.gc_collected.proofs.collected_heap.CollectedHeap.copy_fields.Goals as goal
use Rattle.gc_collected.proofs.collected_heap.CollectedHeap.copy_fields.Goals.{In_ok-reply}

-- the call by places
by_places : (c : In_ok-reply) → copy_values_step c.args.self.now.core c.args.m (place c.args.d c.args.m) c.args.to (place c.args.s c.args.m) c.args.from c.args.count ≡ (c.in_ok-reply.reply, c.copy_root_fields.new.self.core)
by_places c =
    (λ k. copy_values_step c.args.self.now.core c.args.m (sym c.place.ensures.value k) (sym c.from.ensures k) (sym c.place-2.ensures.value k) (sym c.from-2.ensures k) (sym c.from-3.ensures k))
    ∙ c.in_ok-reply.ensures.step

pub overflow_add-to : goal.overflow_add-to
overflow_add-to c =
    let s = c.args.self.now.core in
    let said = ap (λ (x : Reply × State). x.0) (by_places (goal.at.overflow_add-to c).In_ok-reply) ∙ c.in-Done.is in
    let fit = fields_fit s.size s.heap.free s.heap.graph c.args.m c.args.to c.args.from c.args.count c.args.d c.args.s c.is_sound.ensures.heap said in
    omega (arith, fit)

pub returns-clause-step : goal.returns-clause-step
returns-clause-step c =
    let s = c.args.self.now.core in
    let low = slot_below c.args.t c.args.m s.mutators (omega (arith, c.index.ensures.value, c.index.ensures.bound)) c.requires.mutator in
    copied_through c.args.m c.args.d c.args.s c.args.t c.requires.target c.requires.source s c.copy_root_fields.new.self.core c.fetch-got.new.self.core c.args.to c.args.from c.args.count c.in_ok-reply.reply c.fetch-got.ensures.fetches.0
    (omega (arith, c.place.ensures.value, c.place.ensures.bound, c.root_places.ensures.count, c.root_places.ensures.slots, c.requires.mutator)) (omega (arith, low, c.root_places.ensures.count, c.root_places.ensures.slots))
    (by_places (goal.at.returns-clause-step c).In_ok-reply) c.in-Done.is (omega (arith, c.if-count-eq0.false)) c.fetch-got.ensures.fetches.1
