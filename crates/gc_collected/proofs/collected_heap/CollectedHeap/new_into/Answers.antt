-- A `New` writes one root and no field of an older object, so an open collection stays.
use Rattle.std.proofs.Common.{◌≡◌, ◌↔◌, ◌<◌, true, true≢false, length, ap, refl, sym, ◌∙◌, subst}
use Rattle.gc_graph.specs.Slots.{roots_of}
use Rattle.gc_graph.specs.declared.command.Op.TheVariants.{New}
use Rattle.gc_graph.specs.declared.reply.Reply.{Reply}
use Rattle.gc_heap.specs.Places.{root_at}
use Rattle.gc_model.specs.State.{State}
use Rattle.gc_model.specs.Steps.{mutate}
use Rattle.gc_collected.specs.Internal.CollectedHeap.{state_in}
use Rattle.gc_collected.specs.Internal.KnownRoots.{roots_left_in, without_slots}
use Rattle.gc_roots.specs.Twins.{AsksForLook}
use Rattle.gc_collected.proofs.ByPlace.{Known}
use Rattle.gc_collected.proofs.Core.{core_is, left_is}
use Rattle.gc_collected.proofs.Together.{full_same}
use Rattle.gc_collected.proofs.Unwritten.{StoredIf, asks_if, known_if, slot_taken}
use Rattle.gc_collected.proofs.collected_heap.CollectedHeap.new_into.Goals as goal
use Rattle.gc_collected.proofs.collected_heap.CollectedHeap.new_into.Goals.{After-root_count-slots}

pub invariant_of-self : goal.invariant_of-self
invariant_of-self c =
    let heap = c.self.inside.heap in
    let was = c.self.inside.known in
    let made = c.new_root_in in
    let low : c.args.d < roots_of heap.mutators = subst (λ (s : State). c.args.d < roots_of s.mutators) (sym (core_is c.self.view_is)) (c.requires.slot.0 c.if-is_slot.true) in
    let knows = subst (Known (without_slots was)) (ap (λ (x : Reply × State). x.1) made.ensures.step)
    (known_if true was (without_slots was) (state_in heap c.self.inside.collection) 0 c.args.d (New (root_at c.args.d) c.args.kind c.args.len) refl
    (subst (λ (s : State). c.args.d < length s.heap.graph.roots) (sym (core_is c.self.view_is)) c.requires.root) (slot_taken was (roots_of heap.mutators) c.args.d low) (λ e. absurd (true≢false e)) (c.self.invariant.0.1, c.self.invariant.0.2)) in (
      (made.ensures.fits c.self.inside.epoch c.self.invariant.0.0, knows.0, knows.1),
      λ on. made.ensures.follows (c.self.invariant.1 on),
    )

-- so many slots there are
slots_are : (c : After-root_count-slots) → c.root_count-slots.result ≡ roots_of c.args.self.now.core.mutators
slots_are c = c.root_count-slots.ensures ∙ ap roots_of (c.mutators.ensures.value ∙ c.new_root_in-made.ensures.mutators ∙ ap (λ (s : State). s.mutators) (core_is c.self.view_is))

pub took_if-requires-clause-slot : goal.took_if-requires-clause-slot
took_if-requires-clause-slot c = subst (λ n. c.args.is_slot ≡ true ↔ c.args.d < n) (sym (slots_are (goal.at.took_if-requires-clause-slot c).After-root_count-slots)) c.requires.slot

pub invariant_of-self-2 : goal.invariant_of-self-2
invariant_of-self-2 c =
    let heap = c.self.inside.heap in
    let was = c.self.inside.known in
    let now = c.took_if.new.self in
    let made = c.new_root_in-made in
    let s = state_in heap c.self.inside.collection in
    let op = New (root_at c.args.d) c.args.kind c.args.len in
    let within = subst (λ (s : State). c.args.d < length s.heap.graph.roots) (sym (core_is c.self.view_is)) c.requires.root in
    let slots = c.root_count-slots.ensures ∙ ap roots_of (c.mutators.ensures.value ∙ c.new_root_in-made.ensures.mutators) in
    let stored : StoredIf c.has_made.result was now (roots_of heap.mutators) c.args.d = subst (λ n. StoredIf c.has_made.result was now n c.args.d) slots (record { written = c.took_if.ensures.written; none = c.took_if.ensures.none }) in
    let knows = subst (Known now) (ap (λ (x : Reply × State). x.1) made.ensures.step)
    (known_if c.has_made.result was now s 0 c.args.d op refl within stored
    (λ none. full_same s (mutate s 0 op).1 0 c.args.kind c.args.len (root_at c.args.d) (mutate s 0 op).0 refl (ap (λ (x : Reply × State). x.0) made.ensures.step ∙ c.has_made.ensures.full none)) (c.self.invariant.0.1, c.self.invariant.0.2)) in (
      (made.ensures.fits c.self.inside.epoch c.self.invariant.0.0, knows.0, knows.1),
      λ on. made.ensures.follows (c.self.invariant.1 on),
    )

pub returns-clause-looks : goal.returns-clause-looks
returns-clause-looks c = subst (λ n. AsksForLook c.args.d n (roots_left_in c.self.inside.collection c.took_if.new.self.twins)) (left_is c.self.view_is)
    (asks_if c.has_made.result c.self.inside.collection c.self.inside.known c.took_if.new.self c.root_count-slots.result c.args.d (record { written = c.took_if.ensures.written; none = c.took_if.ensures.none }))

-- here the root is no slot
pub returns-clause-slots : goal.returns-clause-slots
returns-clause-slots c = λ is. absurd (true≢false (sym is ∙ c.if-is_slot.false))
