-- The object and its fields leave what is known of the roots true, but for the root that takes the object.
use Rattle.std.proofs.Common.{◌≡◌, ℕ, ◌<◌, List, length, Option, is_some, ap, refl, sym, ◌∙◌, subst}
use Rattle.std.specs.Option.{option_map}
use Rattle.std.proofs.lemmas.List.{length-map}
use Rattle.gc_graph.specs.Slots.{SlotName, roots_of}
use Rattle.gc_graph.specs.declared.reply.Reply.{Reply}
use Rattle.gc_graph.specs.declared.command.Op.TheVariants.{New}
use Rattle.gc_words.specs.Word.{value_of}
use Rattle.gc_heap.specs.Heap.{HeapWords}
use Rattle.gc_heap.specs.Places.{root_at}
use Rattle.gc_model.specs.Steps.{mutate}
use Rattle.gc_copy.specs.Words.{CollectionWords, collection_in}
use Rattle.gc_roots.specs.Twins.{AsksForLook, RootRow}
use Rattle.gc_collected.specs.CollectedHeap.{new_from_step}
use Rattle.gc_collected.specs.Internal.KnownRoots.{roots_left_in}
use Rattle.gc_model.specs.State.{State}
use Rattle.gc_collected.specs.Internal.CollectedHeap.{state_in}
use Rattle.gc_collected.proofs.Core.{core_is, left_is}
use Rattle.gc_collected.proofs.Marks.{from_knows}
use Rattle.gc_collected.proofs.OtherCommands.{it_belongs}
use Rattle.gc_collected.proofs.Parts.{same_state, still_known}
use Rattle.gc_collected.proofs.Together.{full_same}
use Rattle.gc_collected.proofs.Unwritten.{StoredIf, asks_if, from_open, known_if, left_open, not_made, same_if}
use Rattle.gc_collected.proofs.collected_heap.CollectedHeap.new_from_roots.Goals as goal

pub invariant_of-self : goal.invariant_of-self
invariant_of-self g c = still_known c.self.inside.epoch c.self.inside.known c.self.inside.heap c.self.inside.collection c.reserve_in.new.collection c.self.inside.watch c.self.inside.along c.reserve_in.ensures.same c.reserve_in.ensures.fits c.self.invariant

pub make_filled-made-requires-clause-belongs : goal.make_filled-made-requires-clause-belongs
make_filled-made-requires-clause-belongs g c = it_belongs c.self.inside.epoch c.self.inside.heap c.reserve_in.new.collection (c.reserve_in.ensures.fits c.self.inside.epoch c.self.inside.heap c.self.invariant.0.0)

pub make_filled-made-requires-clause-row : goal.make_filled-made-requires-clause-row
make_filled-made-requires-clause-row g c =
    let heap = c.self.inside.heap in
    subst (g.R.RootRow.is_row c.args.fields.now c.args.m) (sym (ap (λ (s : State). length s.heap.graph.roots) (core_is c.self.view_is)) ∙ length-map heap.roots value_of) c.requires.row

pub invariant_of-self-2 : goal.invariant_of-self-2
invariant_of-self-2 g c =
    let heap = c.self.inside.heap in
    let was = c.self.inside.known in
    let now = c.took_if.new.self in
    let p = c.reserve_in.new.collection in
    let s = state_in heap p in
    let all = c.make_filled-made in
    let names = g.R.RootRow.names c.args.fields.now in
    let op = New (root_at c.args.d) c.args.kind (length names) in
    let within = subst (λ (s : State). c.args.d < length s.heap.graph.roots) (sym (same_state heap c.self.inside.collection p c.args.self.now.core c.reserve_in.ensures.same (core_is c.self.view_is))) c.requires.object in
    let slots = c.root_count-slots.ensures ∙ ap roots_of (c.mutators.ensures.value ∙ all.ensures.mutators) in
    let stored : StoredIf c.has_made.result was now (roots_of heap.mutators) c.args.d = subst (λ n. StoredIf c.has_made.result was now n c.args.d) slots (record { written = c.took_if.ensures.written; none = c.took_if.ensures.none }) in
    let k = still_known c.self.inside.epoch was heap c.self.inside.collection p c.self.inside.watch c.self.inside.along c.reserve_in.ensures.same c.reserve_in.ensures.fits c.self.invariant in
    let knows = known_if c.has_made.result was now s c.args.m c.args.d op refl within stored
    (λ none. full_same s (mutate s c.args.m op).1 c.args.m c.args.kind (length names) (root_at c.args.d) (mutate s c.args.m op).0 refl (ap (λ (x : Reply × State). x.0) all.ensures.step ∙ c.has_made.ensures.full none)) ((k.0).1, (k.0).2) in (
      (
        all.ensures.fits c.self.inside.epoch (k.0).0,
        from_knows now s (state_in all.new.heap all.new.collection) c.args.m c.args.kind (root_at c.args.d) names all.result all.ensures.step knows.0,
        knows.1,
      ),
      λ on. all.ensures.follows (k.1 on),
    )

-- an open collection stays open
opened : (heap new : HeapWords) (o p q : Option CollectionWords) (m kind d : ℕ) (names : List SlotName) (reply : Reply) (row : RootRow) → option_map collection_in p ≡ option_map collection_in o → new_from_step (state_in heap p) m (root_at d) kind names ≡ (reply, state_in new q)
    → roots_left_in q row ≡ roots_left_in o row
opened heap new o p q m kind d names reply row same step = left_open o q row (from_open (state_in heap p) (state_in new q) m kind (root_at d) names reply step ∙ ap is_some same)

pub returns-clause-looks : goal.returns-clause-looks
returns-clause-looks g c =
    let was = c.self.inside.known in
    let now = c.took_if.new.self in
    let all = c.make_filled-made in
    subst (λ n. AsksForLook c.args.d n (roots_left_in all.new.collection now.twins)) (left_is c.self.view_is)
    (subst (AsksForLook c.args.d (roots_left_in c.self.inside.collection was.twins)) (sym (opened c.self.inside.heap all.new.heap c.self.inside.collection c.reserve_in.new.collection all.new.collection c.args.m c.args.kind c.args.d (g.R.RootRow.names c.args.fields.now) all.result now.twins c.reserve_in.ensures.same all.ensures.step))
    (asks_if c.has_made.result c.self.inside.collection was now c.root_count-slots.result c.args.d (record { written = c.took_if.ensures.written; none = c.took_if.ensures.none })))

pub returns-clause-full : goal.returns-clause-full
returns-clause-full g c = λ full.
    let was = c.self.inside.known in
    let now = c.took_if.new.self in
    let all = c.make_filled-made in
    opened c.self.inside.heap all.new.heap c.self.inside.collection c.reserve_in.new.collection all.new.collection c.args.m c.args.kind c.args.d (g.R.RootRow.names c.args.fields.now) all.result now.twins c.reserve_in.ensures.same all.ensures.step
    ∙ same_if c.has_made.result c.self.inside.collection was now c.root_count-slots.result c.args.d (record { written = c.took_if.ensures.written; none = c.took_if.ensures.none }) (not_made c.has_made.result (λ made. c.has_made.ensures.made made full))
    ∙ left_is c.self.view_is
