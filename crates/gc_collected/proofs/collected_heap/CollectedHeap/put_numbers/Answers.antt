-- The fields take the numbers through no root, and the slot takes the last one.
use Rattle.std.proofs.lemmas.Grind.{common_steps}
use Rattle.std.proofs.Common.{◌≡◌, ◌-◌, get_or, length, sym, ap, ◌∙◌, arith}
use Rattle.gc_graph.specs.Slots.{place}
use Rattle.gc_graph.specs.declared.command.Op.TheVariants.{Num as SetNumber}
use Rattle.gc_model.specs.Steps.{mutate}
use Rattle.gc_collected.specs.Writing.{put_root_numbers_step}
use Rattle.gc_collected.proofs.Marks.{slot_below}
use Rattle.gc_collected.proofs.ThroughSlot.{numbers_through}
use Rattle.gc_collected.proofs.collected_heap.CollectedHeap.put_numbers.Goals as goal
use Rattle.gc_collected.proofs.collected_heap.CollectedHeap.put_numbers.Goals.{In_ok-reply}

-- the call by places
by_places : (c : In_ok-reply) → put_root_numbers_step c.args.self.now.core c.args.m (place c.args.s c.args.m) c.args.first c.args.words.now ≡ (c.in_ok-reply.reply, c.put_root_numbers.new.self.core)
by_places c = (λ k. put_root_numbers_step c.args.self.now.core c.args.m (sym c.place.ensures.value k) (sym c.from.ensures k) c.args.words.now) ∙ c.in_ok-reply.ensures.step

pub returns-clause-step : goal.returns-clause-step
returns-clause-step c =
    let s = c.args.self.now.core in
    let words = c.args.words.now in
    let low = slot_below c.args.t c.args.m s.mutators (omega (arith, c.index.ensures.value, c.index.ensures.bound)) c.requires.mutator in
    let last : c.unwrap-last.result ≡ get_or words (length words - 1) 0 = grind (arith, common_steps, c.unwrap-last.ensures, c.new.ensures) in
    numbers_through s c.put_root_numbers.new.self.core c.num-done.new.self.core c.args.m c.args.first c.args.s c.args.t words c.in_ok-reply.reply c.num-done.result c.requires.apart
    (omega (arith, c.place.ensures.value, c.place.ensures.bound, c.root_places.ensures.count, c.root_places.ensures.slots, c.requires.mutator)) (omega (arith, low, c.root_places.ensures.count, c.root_places.ensures.slots))
    (by_places (goal.at.returns-clause-step c).In_ok-reply) c.in-Done.is (omega (arith, c.if-words-eq0.false))
    (ap (λ n. mutate c.put_root_numbers.new.self.core c.args.m (SetNumber c.args.t n)) (sym last) ∙ c.num-done.ensures.step)
