-- A `Nil` writes one root and no field, so an open collection stays, and the root needs no replica.
use Rattle.std.proofs.Common.{◌≡◌, ◌↔◌, true, ◌<◌, length, ap, refl, sym, ◌∙◌, subst}
use Rattle.std.specs.Option.{option_map}
use Rattle.gc_graph.specs.Slots.{roots_of}
use Rattle.gc_graph.specs.declared.command.Op.TheVariants.{Nil}
use Rattle.gc_heap.specs.Places.{root_at}
use Rattle.gc_model.specs.State.{State}
use Rattle.gc_copy.specs.Words.{collection_in, state_of}
use Rattle.gc_collected.specs.Internal.KnownRoots.{HasStored, roots_left_in}
use Rattle.gc_roots.specs.Twins.{AskForLooks}
use Rattle.gc_collected.proofs.ByPlace.{nil_root_known, root_followed}
use Rattle.gc_collected.proofs.Core.{core_is, left_is}
use Rattle.gc_collected.proofs.Marks.{nil_asks, stored_stays}
use Rattle.gc_collected.proofs.OtherCommands.{said}
use Rattle.gc_collected.proofs.collected_heap.CollectedHeap.nil_into.Goals as goal
use Rattle.gc_collected.proofs.collected_heap.CollectedHeap.nil_into.Goals.{After-root_count-slots}

-- so many slots there are
slots_are : (c : After-root_count-slots) → c.root_count-slots.result ≡ roots_of c.args.self.now.core.mutators
slots_are c = c.root_count-slots.ensures ∙ ap roots_of (c.mutators.ensures.value ∙ ap (λ (s : State). s.mutators) (core_is c.self.view_is))

pub took_nil-requires : goal.took_nil-requires
took_nil-requires c = subst (λ n. c.args.is_slot ≡ true ↔ c.args.d < n) (sym (slots_are (goal.at.took_nil-requires c).After-root_count-slots)) c.requires.slot

pub invariant_of-self : goal.invariant_of-self
invariant_of-self c =
    let heap = c.self.inside.heap in
    let s = state_of heap (option_map collection_in c.self.inside.collection) in
    let within = subst (λ (s : State). c.args.d < length s.heap.graph.roots) (sym (core_is c.self.view_is)) c.requires.root in
    let taken = subst (λ n. HasStored c.self.inside.known c.took_nil.new.self c.self.inside.known.slots c.self.inside.known.twins.used n c.args.d) (c.root_count-slots.ensures ∙ ap roots_of c.mutators.ensures.value) c.took_nil.ensures in
    root_followed c.args.self.now.core c.self.inside.epoch c.self.inside.known c.took_nil.new.self heap c.nil_root.new.self c.self.inside.collection 0 (Nil (root_at c.args.d)) c.nil_root.result c.self.inside.watch c.self.inside.along (core_is c.self.view_is) c.is_sound.ensures.open c.space.ensures.sound (c.nil_root.ensures.performs 0)
    (λ none. none) refl (nil_root_known c.self.inside.known c.took_nil.new.self s c.args.d within taken) c.self.invariant

pub returns-clause-mutators : goal.returns-clause-mutators
returns-clause-mutators c = ((c.nil_root.ensures.performs 0)).mutators ∙ ap (λ (s : State). s.mutators) (core_is c.self.view_is)

pub returns-clause-step : goal.returns-clause-step
returns-clause-step c = said c.args.self.now.core c.self.inside.epoch c.self.inside.heap c.nil_root.new.self c.self.inside.collection 0 (Nil (root_at c.args.d)) c.nil_root.result (core_is c.self.view_is) c.self.invariant.0.0 c.space.ensures.sound (λ none. none) (c.nil_root.ensures.performs 0)

pub returns-clause-looks : goal.returns-clause-looks
returns-clause-looks c = subst (λ n. AskForLooks 1 n (roots_left_in c.self.inside.collection c.took_nil.new.self.twins)) (left_is c.self.view_is)
    (nil_asks c.self.inside.collection c.self.inside.known c.took_nil.new.self c.self.inside.known.slots c.root_count-slots.result c.args.d c.took_nil.ensures)

pub returns-clause-slots : goal.returns-clause-slots
returns-clause-slots c = λ is.
    stored_stays c.self.inside.collection c.self.inside.known c.took_nil.new.self c.self.inside.known.slots _ c.root_count-slots.result c.args.d c.took_nil.ensures
    (subst (λ n. c.args.d < n) (sym (slots_are (goal.at.returns-clause-slots c).After-root_count-slots)) (c.requires.slot.0 is))
    ∙ left_is c.self.view_is
