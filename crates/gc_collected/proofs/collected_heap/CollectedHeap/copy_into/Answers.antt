-- A `Move` writes one root and no field, so an open collection stays, and what is known of the other extra roots is still true.
use Rattle.std.proofs.Common.{◌≡◌, ◌↔◌, true, ◌+◌, ◌-◌, ◌<◌, length, ap, refl, sym, ◌∙◌, subst}
use Rattle.std.specs.Prelude.{max}
use Rattle.std.specs.Option.{option_map}
use Rattle.gc_graph.specs.Slots.{roots_of}
use Rattle.gc_graph.specs.declared.command.Op.TheVariants.{Move}
use Rattle.gc_heap.specs.Places.{root_at}
use Rattle.gc_model.specs.State.{State}
use Rattle.gc_copy.specs.Words.{collection_in, state_of}
use Rattle.gc_collected.specs.Internal.KnownRoots.{HasStored, roots_left_in}
use Rattle.gc_roots.specs.Twins.{AsksForLook}
use Rattle.gc_collected.proofs.ByPlace.{root_known, root_followed}
use Rattle.gc_collected.proofs.Core.{core_is, left_is}
use Rattle.gc_collected.proofs.Marks.{stored_asks_near, stored_stays}
use Rattle.gc_collected.proofs.OtherCommands.{said}
use Rattle.gc_collected.proofs.collected_heap.CollectedHeap.copy_into.Goals as goal
use Rattle.gc_collected.proofs.collected_heap.CollectedHeap.copy_into.Goals.{After-root_count-slots}

-- so many slots there are
slots_are : (c : After-root_count-slots) → c.root_count-slots.result ≡ roots_of c.args.self.now.core.mutators
slots_are c = c.root_count-slots.ensures ∙ ap roots_of (c.mutators.ensures.value ∙ ap (λ (s : State). s.mutators) (core_is c.self.view_is))

pub took-requires-clause-slot : goal.took-requires-clause-slot
took-requires-clause-slot c = subst (λ n. c.args.is_slot ≡ true ↔ c.args.d < n) (sym (slots_are (goal.at.took-requires-clause-slot c).After-root_count-slots)) c.requires.slot

pub invariant_of-self : goal.invariant_of-self
invariant_of-self c =
    let heap = c.self.inside.heap in
    let s = state_of heap (option_map collection_in c.self.inside.collection) in
    let within = subst (λ (s : State). c.args.d < length s.heap.graph.roots) (sym (core_is c.self.view_is)) c.requires.taker in
    let taken = subst (λ n. HasStored c.self.inside.known c.took.new.self 0 (max c.self.inside.known.twins.used (c.args.d - n + 1)) n c.args.d) (c.root_count-slots.ensures ∙ ap roots_of c.mutators.ensures.value) c.took.ensures in
    root_followed c.args.self.now.core c.self.inside.epoch c.self.inside.known c.took.new.self heap c.copy_root.new.self c.self.inside.collection 0 (Move (root_at c.args.d) (root_at c.args.s)) c.copy_root.result c.self.inside.watch c.self.inside.along (core_is c.self.view_is) c.is_sound.ensures.open c.space.ensures.sound (c.copy_root.ensures.performs 0)
    (λ none. none) refl (root_known c.self.inside.known c.took.new.self s 0 c.args.d (Move (root_at c.args.d) (root_at c.args.s)) refl within taken) c.self.invariant

pub returns-clause-mutators : goal.returns-clause-mutators
returns-clause-mutators c = ((c.copy_root.ensures.performs 0)).mutators ∙ ap (λ (s : State). s.mutators) (core_is c.self.view_is)

pub returns-clause-step : goal.returns-clause-step
returns-clause-step c = said c.args.self.now.core c.self.inside.epoch c.self.inside.heap c.copy_root.new.self c.self.inside.collection 0 (Move (root_at c.args.d) (root_at c.args.s)) c.copy_root.result (core_is c.self.view_is) c.self.invariant.0.0 c.space.ensures.sound (λ none. none) (c.copy_root.ensures.performs 0)

pub returns-clause-looks : goal.returns-clause-looks
returns-clause-looks c =
    subst (λ n. AsksForLook (c.args.d - n) c.args.self.now.roots_left (roots_left_in c.self.inside.collection c.took.new.self.twins)) (slots_are (goal.at.returns-clause-looks c).After-root_count-slots)
    (subst (λ n. AsksForLook (c.args.d - c.root_count-slots.result) n (roots_left_in c.self.inside.collection c.took.new.self.twins)) (left_is c.self.view_is)
    (stored_asks_near c.self.inside.collection c.self.inside.known c.took.new.self 0 c.root_count-slots.result c.args.d c.took.ensures))

pub returns-clause-slots : goal.returns-clause-slots
returns-clause-slots c = λ is.
    stored_stays c.self.inside.collection c.self.inside.known c.took.new.self 0 _ c.root_count-slots.result c.args.d c.took.ensures
    (subst (λ n. c.args.d < n) (sym (slots_are (goal.at.returns-clause-slots c).After-root_count-slots)) (c.requires.slot.0 is))
    ∙ left_is c.self.view_is
