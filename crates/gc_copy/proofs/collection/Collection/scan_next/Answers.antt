-- Where a replica that is not raw has a field at the scan pointer, bringing it up to date is the model's scan.
use Rattle.std.proofs.Common.{rules, ◌≡◌, ◌+◌, ◌<◌, false, Some, None, ap, sym, ◌∙◌, subst}
use Rattle.std.specs.Prelude.{◌^◌, IsSome}
use Rattle.std.specs.Option.{option_map}
use Rattle.gc_words.specs.Image.{field_at, header_at}
use Rattle.gc_words.specs.Spelling.{link_at}
use Rattle.gc_words.specs.declared.header.Header.{Header}
use Rattle.gc_heap.specs.Heap.{graph_in}
use Rattle.gc_model.specs.State.{Replica, replica_of}
use Rattle.gc_model.specs.Steps.{scan_done, bring_up_to_date}
use Rattle.gc_model.specs.declared.step.StepReply.TheVariants.{Scanned, NoRoom}
use Rattle.gc_copy.specs.contracts.collection.Collection.{the_view}
use Rattle.gc_copy.specs.Words.{CollectionWords, IsCollection, BelongsTo, collection_in, open_state}
use Rattle.gc_copy.specs.Internal.Words.{KeepsStarts}
use Rattle.gc_copy.proofs.OpenCollection.{if_err}
use Rattle.gc_copy.proofs.Scanning.{header_there, left_at_start, replica, field_there, next_small, no_room, original_plain, scanned, scanned_belongs}
use Rattle.gc_copy.proofs.collection.Collection.scan_next.Goals as goal
use Rattle.gc_copy.proofs.collection.Collection.scan_next.Goals.{After-self, In_ok-move_field}

module _ (c : After-self) where
  abbrev x : CollectionWords
  x = c.args.self.now

  -- the collection belongs to the heap, and is not scanned to its end
  scanning : IsCollection x × BelongsTo c.args.heap.now x × (scan_done (collection_in x) ≡ false)
  scanning =
      let is = subst IsCollection c.self.view_is c.self.invariant.0 in
      (is, c.requires.belongs, left_at_start x is c.requires.start)

  abbrev header : (h : Header) × (header_at x.space.words x.scan_place ≡ Some h)
  header = header_there c.args.heap.now x scanning

  plain : header.0.raw ≡ false
  plain = (c.requires.field header.0 header.1).0

  other : x.scan_field ≡ header.0.len → ⊥
  other = (c.requires.field header.0 header.1).1

  field_is : c.self.inside.scan_field ≡ x.scan_field
  field_is = ap (λ (y : CollectionWords). y.scan_field) c.self.view_is

  place_is : c.self.inside.scan_place.0 ≡ x.scan_place
  place_is = ap (λ (y : CollectionWords). y.scan_place) c.self.view_is

pub move_field-requires-clause-field : goal.move_field-requires-clause-field
move_field-requires-clause-field c =
    let at = (goal.at.move_field-requires-clause-field c).After-self in
    subst (λ a. IsSome (field_at c.args.heap.now.space.words a c.self.inside.scan_field)) c.requires.original
    (subst (λ i. IsSome (field_at c.args.heap.now.space.words (link_at c.args.self.now.space.words c.args.self.now.scan_place) i)) (sym (field_is at))
    (field_there c.args.heap.now c.args.self.now (scanning at) (header at).0 (header at).1 (other at)))

pub move_field-requires-clause-replica : goal.move_field-requires-clause-replica
move_field-requires-clause-replica c =
    let at = (goal.at.move_field-requires-clause-replica c).After-self in
    ap (λ a. option_map (λ (r : Replica). r.place) (replica_of (collection_in c.args.self.now) a)) (sym c.requires.original)
    ∙ replica c.args.heap.now c.args.self.now (scanning at)
    ∙ ap Some (sym (place_is at))

pub move_field-requires-clause-plain : goal.move_field-requires-clause-plain
move_field-requires-clause-plain c = λ k e.
    let at = (goal.at.move_field-requires-clause-plain c).After-self in
    original_plain c.args.heap.now c.args.self.now (scanning at) (header at).0 (header at).1 (plain at) k (ap (header_at c.args.heap.now.space.words) c.requires.original ∙ e)

pub overflow_add-self : goal.overflow_add-self
overflow_add-self c =
    let at = (goal.at.overflow_add-self c).After-self in
    let fits : c.self.inside.scan_field + 1 < 2 ^ 16 = subst (λ i. i + 1 < 2 ^ 16) (sym (field_is at)) (next_small c.args.heap.now c.args.self.now (scanning at) (header at).0 (header at).1 (other at)) in
    search rules

pub returns-in_err-move_field-clause-full : goal.returns-in_err-move_field-clause-full
returns-in_err-move_field-clause-full c =
    let at = (goal.at.returns-in_err-move_field-clause-full c).After-self in
    let full = c.in_err-move_field.ensures.full in
    let none : bring_up_to_date (collection_in c.args.self.now) (graph_in c.args.heap.now) (link_at c.args.self.now.space.words c.args.self.now.scan_place) c.args.self.now.scan_field ≡ None
    = ap (λ a. bring_up_to_date (collection_in c.args.self.now) (graph_in c.args.heap.now) a c.args.self.now.scan_field) c.requires.original
    ∙ ap (λ i. bring_up_to_date (collection_in c.args.self.now) (graph_in c.args.heap.now) c.args.original.0 i) (sym (field_is at)) ∙ full.0 in
    if_err _ c.from_residual.result (no_room c.args.heap.now c.args.self.now (scanning at) (header at).0 (header at).1 (plain at) (other at) none
    ∙ (λ i. (NoRoom, open_state (sym full.2 i) (sym full.1 i))))

module _ (c : In_ok-move_field) where
  -- the field is up to date, and the rest is as it was
  brought : bring_up_to_date (collection_in c.args.self.now) (graph_in c.args.heap.now) (link_at c.args.self.now.space.words c.args.self.now.scan_place) c.args.self.now.scan_field ≡ Some (collection_in c.move_field.new.self)
  brought =
      ap (λ a. bring_up_to_date (collection_in c.args.self.now) (graph_in c.args.heap.now) a c.args.self.now.scan_field) c.requires.original
      ∙ ap (λ i. bring_up_to_date (collection_in c.args.self.now) (graph_in c.args.heap.now) c.args.original.0 i) (sym (ap (λ (y : CollectionWords). y.scan_field) c.self.view_is))
      ∙ c.in_ok-move_field.ensures.brought

pub returns-clause-scanned : goal.returns-clause-scanned
returns-clause-scanned c =
    let at = goal.at.returns-clause-scanned c in
    let s = at.After-self in
    scanned c.args.heap.now c.args.self.now (scanning s) (header s).0 (header s).1 (plain s) (other s) c.move_field.new.heap c.move_field.new.self c.in_ok-move_field.ensures.graph c.in_ok-move_field.ensures.rest (brought at.In_ok-move_field)
    ∙ (λ j. (Scanned, open_state c.move_field.new.heap (record (sym c.self-2.view_is j) { scan_field = sym (field_is s) j + 1 })))

pub returns-clause-belongs : goal.returns-clause-belongs
returns-clause-belongs c =
    let at = goal.at.returns-clause-belongs c in
    let s = at.After-self in
    subst (λ i. BelongsTo c.move_field.new.heap (record (the_view c.self-2.inside) { scan_field = i + 1 })) (sym (field_is s))
    (subst (λ (y : CollectionWords). BelongsTo c.move_field.new.heap (record y { scan_field = c.args.self.now.scan_field + 1 })) (sym c.self-2.view_is)
    (scanned_belongs c.args.heap.now c.args.self.now (scanning s) (header s).0 (header s).1 (plain s) (other s) c.move_field.new.heap c.move_field.new.self c.in_ok-move_field.ensures.graph c.in_ok-move_field.ensures.rest c.in_ok-move_field.ensures.belongs (brought at.In_ok-move_field)))

pub returns-clause-starts : goal.returns-clause-starts
returns-clause-starts c = subst (λ (y : CollectionWords). KeepsStarts c.args.self.now.space y.space) (sym c.self-2.view_is) c.in_ok-move_field.ensures.starts
