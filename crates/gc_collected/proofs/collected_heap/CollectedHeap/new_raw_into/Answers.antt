-- A `NewRaw` writes one root and no field of an older object, so an open collection stays, and the monitor is told of the new object.
use Rattle.std.proofs.Common.{◌↔◌, ◌≡◌, ◌<◌, true, false, length, refl, ap, sym, subst, ◌∙◌}
use Rattle.gc_graph.specs.Slots.{roots_of}
use Rattle.gc_graph.specs.declared.command.Op.TheVariants.{NewRaw}
use Rattle.gc_graph.specs.declared.reply.Reply.{Reply}
use Rattle.gc_heap.specs.Places.{root_at}
use Rattle.gc_model.specs.State.{State}
use Rattle.gc_model.specs.Steps.{mutate}
use Rattle.gc_monitor.specs.Claims.{CanMake}
use Rattle.gc_monitor.specs.Events.{Made}
use Rattle.gc_collected.specs.Internal.CollectedHeap.{state_in}
use Rattle.gc_collected.specs.Internal.KnownRoots.{roots_left_in}
use Rattle.gc_roots.specs.Twins.{AsksForLook}
use Rattle.gc_collected.proofs.ByPlace.{Known}
use Rattle.gc_collected.proofs.Core.{core_is, left_is}
use Rattle.gc_collected.proofs.Followed.{newly}
use Rattle.gc_collected.proofs.OtherCommands.{it_belongs, mutated, said, still_fits}
use Rattle.gc_collected.proofs.Unwritten.{StoredIf, asks_if, full_raw, known_if, not_made, same_if, stays_if}
use Rattle.gc_collected.proofs.collected_heap.CollectedHeap.new_raw_into.Goals as goal
use Rattle.gc_collected.proofs.collected_heap.CollectedHeap.new_raw_into.Goals.{After-root_count-slots}

-- so many slots there are
slots_are : (c : After-root_count-slots) → c.root_count-slots.result ≡ roots_of c.args.self.now.core.mutators
slots_are c = c.root_count-slots.ensures ∙ ap roots_of (c.mutators.ensures.value ∙ (c.new_raw_at_root-made.ensures.performs 0).mutators ∙ ap (λ (s : State). s.mutators) (core_is c.self.view_is))

pub took_if-requires-clause-slot : goal.took_if-requires-clause-slot
took_if-requires-clause-slot c = subst (λ n. c.args.is_slot ≡ true ↔ c.args.d < n) (sym (slots_are (goal.at.took_if-requires-clause-slot c).After-root_count-slots)) c.requires.slot

pub invariant_of-self : goal.invariant_of-self
invariant_of-self c =
    let heap = c.self.inside.heap in
    let new = c.new_raw_at_root-made.new.self in
    let o = c.self.inside.collection in
    let op = NewRaw (root_at c.args.d) c.args.kind c.args.len in
    let reply = c.new_raw_at_root-made.result in
    let fits = c.self.invariant.0.0 in
    let performs = c.new_raw_at_root-made.ensures.performs 0 in
    let within = subst (λ (s : State). c.args.d < length s.heap.graph.roots) (sym (core_is c.self.view_is)) c.requires.root in
    let was = c.self.inside.known in
    let now = c.took_if.new.self in
    let s = state_in heap o in
    let is = mutated c.self.inside.epoch heap new o 0 op reply c.space.ensures.sound (λ none. none) performs fits in
    let slots = c.root_count-slots.ensures ∙ ap roots_of (c.mutators.ensures.value ∙ performs.mutators) in
    let stored : StoredIf c.has_made.result was now (roots_of heap.mutators) c.args.d = subst (λ n. StoredIf c.has_made.result was now n c.args.d) slots (record { written = c.took_if.ensures.written; none = c.took_if.ensures.none }) in
    let knows = subst (Known now) (ap (λ (x : Reply × State). x.1) is)
    (known_if c.has_made.result was now s 0 c.args.d op refl within stored
    (λ none. full_raw s (mutate s 0 op).1 0 c.args.kind c.args.len (root_at c.args.d) (mutate s 0 op).0 refl (ap (λ (x : Reply × State). x.0) is ∙ c.has_made.ensures.full none)) (c.self.invariant.0.1, c.self.invariant.0.2)) in (
      (still_fits c.self.inside.epoch heap new o 0 op reply c.space.ensures.sound (λ none. none) performs fits, knows.0, knows.1),
      λ on. newly c.args.self.now.core heap new o 0 op reply c.self.inside.watch c.made.new.self true (root_at c.args.d) c.args.kind c.args.len refl (core_is c.self.view_is) c.is_sound.ensures.open c.is_sound.ensures.heap c.space.ensures.sound (λ none. none) performs (it_belongs c.self.inside.epoch heap o fits)
          (c.heaps_have_addresses_as_names.ensures.graph new c.space-2.ensures.sound) (c.heaps_have_addresses_as_names.ensures.image new c.space-2.ensures.sound)
          (subst (λ ws. c.self.inside.watch.lost ≡ false → CanMake ws c.self.inside.watch → c.made.new.self.lost ≡ false) (c.words.ensures.value ∙ ap (λ x. x.words) c.space-2.ensures.value) c.made.ensures.stays)
          (subst (λ ws. c.made.new.self.lost ≡ false → Made ws c.self.inside.watch c.made.new.self) (c.words.ensures.value ∙ ap (λ x. x.words) c.space-2.ensures.value) c.made.ensures.made) (c.self.invariant.1 on),
    )

pub returns-clause-mutators : goal.returns-clause-mutators
returns-clause-mutators c = (c.new_raw_at_root-made.ensures.performs 0).mutators ∙ ap (λ (s : State). s.mutators) (core_is c.self.view_is)

pub returns-clause-step : goal.returns-clause-step
returns-clause-step c = said c.args.self.now.core c.self.inside.epoch c.self.inside.heap c.new_raw_at_root-made.new.self c.self.inside.collection 0 (NewRaw (root_at c.args.d) c.args.kind c.args.len) c.new_raw_at_root-made.result (core_is c.self.view_is) c.self.invariant.0.0 c.space.ensures.sound (λ none. none) (c.new_raw_at_root-made.ensures.performs 0)

pub returns-clause-looks : goal.returns-clause-looks
returns-clause-looks c = subst (λ n. AsksForLook c.args.d n (roots_left_in c.self.inside.collection c.took_if.new.self.twins)) (left_is c.self.view_is)
    (asks_if c.has_made.result c.self.inside.collection c.self.inside.known c.took_if.new.self c.root_count-slots.result c.args.d (record { written = c.took_if.ensures.written; none = c.took_if.ensures.none }))

pub returns-clause-full : goal.returns-clause-full
returns-clause-full c = λ full.
    same_if c.has_made.result c.self.inside.collection c.self.inside.known c.took_if.new.self c.root_count-slots.result c.args.d (record { written = c.took_if.ensures.written; none = c.took_if.ensures.none }) (not_made c.has_made.result (λ made. c.has_made.ensures.made made full))
    ∙ left_is c.self.view_is

pub returns-clause-slots : goal.returns-clause-slots
returns-clause-slots c = λ is.
    stays_if c.has_made.result c.self.inside.collection c.self.inside.known c.took_if.new.self c.root_count-slots.result c.args.d (record { written = c.took_if.ensures.written; none = c.took_if.ensures.none })
    (subst (λ n. c.args.d < n) (sym (slots_are (goal.at.returns-clause-slots c).After-root_count-slots)) (c.requires.slot.0 is))
    ∙ left_is c.self.view_is
