-- A `fetch_root` changes what a `Get` changes: one root.
use Rattle.std.proofs.Common.{◌↔◌, ◌≡◌, ◌<◌, true, false, true≢false, length, ap, refl, sym, ◌∙◌, subst}
use Rattle.std.specs.Option.{option_map}
use Rattle.gc_graph.specs.Slots.{roots_of}
use Rattle.gc_graph.specs.declared.command.Op.TheVariants.{Get}
use Rattle.gc_graph.specs.declared.reply.Reply.{Reply}
use Rattle.gc_heap.specs.Commands.{fetched_of}
use Rattle.gc_heap.specs.Places.{root_at}
use Rattle.gc_model.specs.State.{State}
use Rattle.gc_model.specs.Steps.{mutate}
use Rattle.gc_copy.specs.Words.{collection_in, state_of}
use Rattle.gc_collected.specs.Internal.KnownRoots.{roots_left_in, without_slots}
use Rattle.gc_roots.specs.Twins.{AsksForLook}
use Rattle.gc_collected.proofs.ByPlace.{get_numbered, root_followed}
use Rattle.gc_collected.proofs.Core.{core_is, left_is}
use Rattle.gc_collected.proofs.OtherCommands.{mutated, said}
use Rattle.gc_collected.specs.CollectedHeap.{HasMissed}
use Rattle.gc_collected.proofs.Unwritten.{StoredIf, asks_if, known_if, missed_same, not_made, same_if, slot_taken}
use Rattle.gc_collected.proofs.collected_heap.CollectedHeap.fetch_into.Goals as goal
use Rattle.gc_collected.proofs.collected_heap.CollectedHeap.fetch_into.Goals.{After-root_count-slots}

pub invariant_of-self : goal.invariant_of-self
invariant_of-self c =
    let heap = c.self.inside.heap in
    let s = state_of heap (option_map collection_in c.self.inside.collection) in
    let within = subst (λ (s : State). c.args.d < length s.heap.graph.roots) (sym (core_is c.self.view_is)) c.requires.taker in
    let was = c.self.inside.known in
    let op = Get (root_at c.args.d) (root_at c.args.s) c.field_number-field.result in
    let low : c.args.d < roots_of heap.mutators = subst (λ (s : State). c.args.d < roots_of s.mutators) (sym (core_is c.self.view_is)) (c.requires.slot.0 c.if-is_slot.true) in
    root_followed c.args.self.now.core c.self.inside.epoch was (without_slots was) heap c.fetch_root.new.self c.self.inside.collection 0 op (c.fetch_root.ensures.fetches 0).0 c.self.inside.watch c.self.inside.along (core_is c.self.view_is) c.is_sound.ensures.open c.space.ensures.sound ((c.fetch_root.ensures.fetches 0).1)
    (λ none. none) refl (known_if true was (without_slots was) s 0 c.args.d op refl within (slot_taken was (roots_of heap.mutators) c.args.d low) (λ e. absurd (true≢false e))) c.self.invariant

pub returns-then-is_slot-clause-mutators : goal.returns-then-is_slot-clause-mutators
returns-then-is_slot-clause-mutators c = (((c.fetch_root.ensures.fetches 0).1)).mutators ∙ ap (λ (s : State). s.mutators) (core_is c.self.view_is)

pub returns-then-is_slot-clause-fetches : goal.returns-then-is_slot-clause-fetches
returns-then-is_slot-clause-fetches c = (
  (c.fetch_root.ensures.fetches 0).0,
  sym (get_numbered c.args.self.now.core 0 c.args.i c.field_number-field.result (root_at c.args.d) (root_at c.args.s) c.is_sound.ensures.heap c.field_number-field.ensures.small c.field_number-field.ensures.large)
      ∙ said c.args.self.now.core c.self.inside.epoch c.self.inside.heap c.fetch_root.new.self c.self.inside.collection 0 (Get (root_at c.args.d) (root_at c.args.s) c.field_number-field.result) (c.fetch_root.ensures.fetches 0).0 (core_is c.self.view_is) c.self.invariant.0.0 c.space.ensures.sound (λ none. none) ((c.fetch_root.ensures.fetches 0).1),
  (c.fetch_root.ensures.fetches 0).2,
)

-- so many slots there are
slots_are : (c : After-root_count-slots) → c.root_count-slots.result ≡ roots_of c.args.self.now.core.mutators
slots_are c = c.root_count-slots.ensures ∙ ap roots_of (c.mutators.ensures.value ∙ (c.fetch_root-fetched.ensures.fetches 0).1.mutators ∙ ap (λ (s : State). s.mutators) (core_is c.self.view_is))

pub took_if-requires-clause-slot : goal.took_if-requires-clause-slot
took_if-requires-clause-slot c = subst (λ n. c.args.is_slot ≡ true ↔ c.args.d < n) (sym (slots_are (goal.at.took_if-requires-clause-slot c).After-root_count-slots)) c.requires.slot

pub invariant_of-self-2 : goal.invariant_of-self-2
invariant_of-self-2 c =
    let heap = c.self.inside.heap in
    let s = state_of heap (option_map collection_in c.self.inside.collection) in
    let within = subst (λ (s : State). c.args.d < length s.heap.graph.roots) (sym (core_is c.self.view_is)) c.requires.taker in
    let was = c.self.inside.known in
    let now = c.took_if.new.self in
    let gets = (c.fetch_root-fetched.ensures.fetches 0) in
    let op = Get (root_at c.args.d) (root_at c.args.s) c.field_number-field.result in
    let is = mutated c.self.inside.epoch heap c.fetch_root-fetched.new.self c.self.inside.collection 0 op gets.0 c.space.ensures.sound (λ none. none) gets.1 c.self.invariant.0.0 in
    let slots = c.root_count-slots.ensures ∙ ap roots_of (c.mutators.ensures.value ∙ (c.fetch_root-fetched.ensures.fetches 0).1.mutators) in
    let stored : StoredIf c.has_fetched.result was now (roots_of heap.mutators) c.args.d = subst (λ n. StoredIf c.has_fetched.result was now n c.args.d) slots (record { written = c.took_if.ensures.written; none = c.took_if.ensures.none }) in
    let same : c.has_fetched.result ≡ false → (mutate s 0 op).1 ≡ s = λ none. missed_same s 0 c.field_number-field.result (root_at c.args.d) (root_at c.args.s) (subst HasMissed (gets.2 ∙ ap (λ (x : Reply × State). fetched_of x.0) (sym is)) (c.has_fetched.ensures.missed none)) in
    root_followed c.args.self.now.core c.self.inside.epoch was now heap c.fetch_root-fetched.new.self c.self.inside.collection 0 (Get (root_at c.args.d) (root_at c.args.s) c.field_number-field.result) (c.fetch_root-fetched.ensures.fetches 0).0 c.self.inside.watch c.self.inside.along (core_is c.self.view_is) c.is_sound.ensures.open c.space.ensures.sound ((c.fetch_root-fetched.ensures.fetches 0).1)
    (λ none. none) refl (known_if c.has_fetched.result was now s 0 c.args.d op refl within stored same) c.self.invariant

pub returns-clause-mutators : goal.returns-clause-mutators
returns-clause-mutators c = (((c.fetch_root-fetched.ensures.fetches 0).1)).mutators ∙ ap (λ (s : State). s.mutators) (core_is c.self.view_is)

pub returns-clause-fetches : goal.returns-clause-fetches
returns-clause-fetches c = (
  (c.fetch_root-fetched.ensures.fetches 0).0,
  sym (get_numbered c.args.self.now.core 0 c.args.i c.field_number-field.result (root_at c.args.d) (root_at c.args.s) c.is_sound.ensures.heap c.field_number-field.ensures.small c.field_number-field.ensures.large)
      ∙ said c.args.self.now.core c.self.inside.epoch c.self.inside.heap c.fetch_root-fetched.new.self c.self.inside.collection 0 (Get (root_at c.args.d) (root_at c.args.s) c.field_number-field.result) (c.fetch_root-fetched.ensures.fetches 0).0 (core_is c.self.view_is) c.self.invariant.0.0 c.space.ensures.sound (λ none. none) ((c.fetch_root-fetched.ensures.fetches 0).1),
  (c.fetch_root-fetched.ensures.fetches 0).2,
)

pub returns-clause-looks : goal.returns-clause-looks
returns-clause-looks c = subst (λ n. AsksForLook c.args.d n (roots_left_in c.self.inside.collection c.took_if.new.self.twins)) (left_is c.self.view_is)
    (asks_if c.has_fetched.result c.self.inside.collection c.self.inside.known c.took_if.new.self c.root_count-slots.result c.args.d (record { written = c.took_if.ensures.written; none = c.took_if.ensures.none }))

pub returns-clause-missed : goal.returns-clause-missed
returns-clause-missed c = λ missed.
    same_if c.has_fetched.result c.self.inside.collection c.self.inside.known c.took_if.new.self c.root_count-slots.result c.args.d (record { written = c.took_if.ensures.written; none = c.took_if.ensures.none }) (not_made c.has_fetched.result (λ found. c.has_fetched.ensures.found found missed))
    ∙ left_is c.self.view_is

-- here the root is no slot
pub returns-clause-slots : goal.returns-clause-slots
returns-clause-slots c = λ is. absurd (true≢false (sym is ∙ c.if-is_slot.false))
