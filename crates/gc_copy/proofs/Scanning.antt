-- The code of the scan does the model's scan.
use Rattle.std.proofs.lemmas.Grind.{common_steps}
use Rattle.gc_words.proofs.Public.{stands_in, some_of, none_at_end, block_of_header, fields_counted, object_found}
use Rattle.std.proofs.Common.{◌≡◌, ⊎_elim, ℕ, ◌+◌, ◌<◌, ◌≤◌, ◌||◌, ◌⊎◌, ◌==◌, Bool, true, false, length, Some, None, is_some, refl, ap, sym, ◌∙◌, subst, arith}
use Rattle.std.specs.Prelude.{◌^◌, IsSome}
use Rattle.std.specs.Option.{option_map}
use Rattle.std.proofs.lemmas.Bool.{cases_Bool, eqb-true, cond-true, cond-false, eq-eqb, ne_eqb, eqb-false, or_left, or_right}
use Rattle.gc_graph.specs.Graph.{Object, lookup}
use Rattle.gc_words.specs.Space.{end_of}
use Rattle.gc_words.specs.Image.{Block, block_at, is_start, header_of, header_at, field_at, object_of_block, objects_of}
use Rattle.gc_words.specs.Spelling.{link_at}
use Rattle.gc_words.specs.declared.header.Header.{Header}
use Rattle.gc_heap.specs.Heap.{HeapWords, graph_in}
use Rattle.gc_model.specs.State.{Replica, new_end, replica_of, replica_at}
use Rattle.gc_model.specs.Steps.{scan_done, scan, next_object, if_room, bring_up_to_date, with_collection, next_field}
use Rattle.gc_model.specs.Members.{In}
use Rattle.gc_model.specs.Belonging.{IsDue}
use Rattle.gc_copy.specs.Words.{CollectionWords, IsCollection, replicas_in, collection_in, open_state, BelongsTo}
use Rattle.gc_copy.specs.Internal.Words.{KeepsGraph, KeepsRest}
use Rattle.gc_model.specs.declared.step.Step.TheVariants as steps
use Rattle.gc_model.specs.declared.step.StepReply.TheVariants.{Passed, Scanned, NoRoom}
use Rattle.gc_model.proofs.Public.{found_by_name, found_by_place}
use Rattle.gc_copy.proofs.Spaces.{in_start, new_end_is, replica_start}
use Rattle.gc_copy.proofs.OpenCollection.{same_graph, after_step, block_of_object, field_present, replica_object}

neither : (a b : Bool) → a ≡ false → b ≡ false → (a || b) ≡ false
neither a b e f = grind (arith, common_steps)

-- no object starts at the end, so where one starts something is left to scan
pub left_at_start : (x : CollectionWords) → IsCollection x → is_start x.space.words x.scan_place ≡ true → scan_done (collection_in x) ≡ false
left_at_start x is start = ⊎_elim
    (λ y. absurd (
    let at : x.scan_place ≡ end_of x.space = eqb-true x.scan_place (new_end (collection_in x)) y ∙ new_end_is x is.space in
    let no : false ≡ true = sym (ap is_some (none_at_end x.space is.space)) ∙ subst (λ n. is_start x.space.words n ≡ true) at start in
    cc))
    (λ n. n)
    (cases_Bool (x.scan_place == new_end (collection_in x)))

-- the collection belongs to the heap, and is not scanned to its end
module _ (heap : HeapWords) (x : CollectionWords) (s : IsCollection x × BelongsTo heap x × (scan_done (collection_in x) ≡ false)) where
  -- the replica at the scan pointer
  at : (r : Replica) × In r (replicas_in x.space.words) × (r.place ≡ x.scan_place) × (x.scan_field ≤ length r.object.fields)
  at = ⊎_elim (λ t. t) (λ t. absurd (eqb-false x.scan_place (new_end (collection_in x)) s.2 t.0)) s.1.belongs.scan

  found : replica_at (collection_in x) x.scan_place ≡ Some at.0
  found = subst (λ n. replica_at (collection_in x) n ≡ Some at.0) at.2 (found_by_place (IsDue (collection_in x)) (graph_in heap).objects (collection_in x) s.1.belongs at.0 at.1)

  pub start : is_start x.space.words x.scan_place ≡ true
  start = grind (arith, common_steps, replica_start, at, in_start)

  pub header_there : (h : Header) × (header_at x.space.words x.scan_place ≡ Some h)
  header_there = let b = some_of (block_at x.space.words x.scan_place) start in (b.0.header, ap header_of b.1)

  original : link_at x.space.words x.scan_place ≡ at.0.original
  original =
      let e = replica_start x.space.words at.0 at.1 in
      ap (link_at x.space.words) (sym (ap (λ (r : Replica). r.place) e.2 ∙ at.2)) ∙ ap (λ (r : Replica). r.original) e.2

  stands_there : (h : Header) → header_at x.space.words x.scan_place ≡ Some h → (b : Block) × (block_at x.space.words x.scan_place ≡ Some b) × (b.header ≡ h) × (object_of_block b ≡ at.0.object)
  stands_there h e =
      let b = block_of_header x.space.words x.scan_place h e in
      let o : lookup (objects_of x.space.words) x.scan_place ≡ Some at.0.object = subst (λ n. lookup (objects_of x.space.words) n ≡ Some at.0.object) at.2 (replica_object (graph_in heap).objects x at.0 s.1.belongs at.1) in
      (b.0, b.1, b.2, (let same : Some (object_of_block b.0) ≡ Some at.0.object = sym (object_found x.space.words x.scan_place ∙ ap (option_map object_of_block) b.1) ∙ o in cc))

  count : (h : Header) → header_at x.space.words x.scan_place ≡ Some h → length at.0.object.fields ≡ h.len
  count h e = grind (arith, common_steps, stands_there, fields_counted)

  -- an object's length fits 16 bits, like that of every header
  len_small : (h : Header) → header_at x.space.words x.scan_place ≡ Some h → h.len < 65536
  len_small h e = (let b = stands_there h e in subst (λ (h : Header). h.len < 65536) b.2 ((stands_in x.space.words x.scan_place b.0 s.0.space.walked b.1).whole.header).len)

  pub small : link_at x.space.words x.scan_place < 2 ^ 32
  small = subst (λ n. n < 2 ^ 32) (sym original) (s.0.originals at.0 at.1)

  pub replica : option_map (λ r. r.place) (replica_of (collection_in x) (link_at x.space.words x.scan_place)) ≡ Some x.scan_place
  replica =
      ap (λ n. option_map (λ (r : Replica). r.place) (replica_of (collection_in x) n)) original
      ∙ ap (option_map (λ (r : Replica). r.place)) (found_by_name (IsDue (collection_in x)) (graph_in heap).objects (collection_in x) s.1.belongs at.0 at.1)
      ∙ ap Some at.2

  pub field_there : (h : Header) → header_at x.space.words x.scan_place ≡ Some h → (x.scan_field ≡ h.len → ⊥) → IsSome (field_at heap.space.words (link_at x.space.words x.scan_place) x.scan_field)
  field_there h e other =
      let ok = s.1.belongs.replicas at.0 at.1 in
      let len = ok.len in
      let most = at.3 in
      subst (λ a. IsSome (field_at heap.space.words a x.scan_field)) (sym original)
      (field_present heap.space.words at.0.original x.scan_field ok.original ok.found (omega (arith, count h e, other)))

  -- the original of a replica that is not raw is not raw either
  pub original_plain : (h : Header) → header_at x.space.words x.scan_place ≡ Some h → h.raw ≡ false → (k : Header) → header_at heap.space.words (link_at x.space.words x.scan_place) ≡ Some k → k.raw ≡ false
  original_plain h e plain k f =
      let ok = s.1.belongs.replicas at.0 at.1 in
      let b = stands_there h e in
      let o = block_of_object heap.space.words at.0.original ok.original ok.found in
      let header : k ≡ o.0.header = (let same : Some k ≡ Some o.0.header = sym f ∙ (ap (header_at heap.space.words) original ∙ ap header_of o.1) in cc) in
      ap (λ (h : Header). h.raw) header
      ∙ ap (λ (o : Object). o.raw) o.2
      ∙ sym ok.raw
      ∙ sym (ap (λ (o : Object). o.raw) b.3)
      ∙ ap (λ (h : Header). h.raw) b.2
      ∙ plain

  -- the number of the next field fits 16 bits
  pub next_small : (h : Header) → header_at x.space.words x.scan_place ≡ Some h → (x.scan_field ≡ h.len → ⊥) → x.scan_field + 1 < 2 ^ 16
  next_small h e other = let most = at.3 in omega (arith, most, len_small h e, count h e, other)

  passes : (h : Header) → header_at x.space.words x.scan_place ≡ Some h → (h.raw ≡ true) ⊎ (x.scan_field ≡ h.len) → scan (open_state heap x) (collection_in x) ≡ (Passed, with_collection (open_state heap x) (Some (next_object (collection_in x) at.0)))
  passes h e all = grind (arith, common_steps, cond-false, found, cond-true, at, or_left, stands_there, or_right, eq-eqb, count)

  pub passed : (h : Header) → header_at x.space.words x.scan_place ≡ Some h → (h.raw ≡ true) ⊎ (x.scan_field ≡ h.len) → (place : ℕ) → place ≡ x.scan_place + (h.len + 2)
      → scan (open_state heap x) (collection_in x) ≡ (Passed, open_state heap (record x { scan_place = place; scan_field = 0 }))
  passed h e all place is_there = grind (arith, common_steps, at, count, passes)

  pub passed_belongs : (h : Header) → header_at x.space.words x.scan_place ≡ Some h → (h.raw ≡ true) ⊎ (x.scan_field ≡ h.len) → (place : ℕ) → place ≡ x.scan_place + (h.len + 2) → BelongsTo heap (record x { scan_place = place; scan_field = 0 })
  passed_belongs h e all place is_there = after_step heap heap x (record x { scan_place = place; scan_field = 0 }) steps.Scan Passed (λ no. cc no) s.0 s.1 (same_graph heap) refl (passed h e all place is_there) s.1.links

  scans : (h : Header) → header_at x.space.words x.scan_place ≡ Some h → h.raw ≡ false → (x.scan_field ≡ h.len → ⊥) → scan (open_state heap x) (collection_in x) ≡ if_room (open_state heap x) Scanned (option_map next_field (bring_up_to_date (collection_in x) (graph_in heap) (link_at x.space.words x.scan_place) x.scan_field))
  scans h e plain other = grind (arith, common_steps, cond-false, found, at, neither, stands_there, ne_eqb, count, original)

  pub no_room : (h : Header) → header_at x.space.words x.scan_place ≡ Some h → h.raw ≡ false → (x.scan_field ≡ h.len → ⊥) → bring_up_to_date (collection_in x) (graph_in heap) (link_at x.space.words x.scan_place) x.scan_field ≡ None
      → scan (open_state heap x) (collection_in x) ≡ (NoRoom, open_state heap x)
  no_room h e plain other none = scans h e plain other ∙ ap (λ o. if_room (open_state heap x) Scanned (option_map next_field o)) none

  -- `after` is the collection in which the field is up to date
  pub scanned : (h : Header) → header_at x.space.words x.scan_place ≡ Some h → h.raw ≡ false → (x.scan_field ≡ h.len → ⊥) → (new : HeapWords) (after : CollectionWords) → KeepsGraph heap new → KeepsRest x after
      → bring_up_to_date (collection_in x) (graph_in heap) (link_at x.space.words x.scan_place) x.scan_field ≡ Some (collection_in after)
      → scan (open_state heap x) (collection_in x) ≡ (Scanned, open_state new (record after { scan_field = x.scan_field + 1 }))
  scanned h e plain other new after graph rest brought = grind (arith, common_steps, scans)

  pub scanned_belongs : (h : Header) → header_at x.space.words x.scan_place ≡ Some h → h.raw ≡ false → (x.scan_field ≡ h.len → ⊥) → (new : HeapWords) (after : CollectionWords) → KeepsGraph heap new → KeepsRest x after → BelongsTo new after
      → bring_up_to_date (collection_in x) (graph_in heap) (link_at x.space.words x.scan_place) x.scan_field ≡ Some (collection_in after)
      → BelongsTo new (record after { scan_field = x.scan_field + 1 })
  scanned_belongs h e plain other new after graph rest belongs brought =
      after_step heap new x (record after { scan_field = x.scan_field + 1 }) steps.Scan Scanned (λ no. cc no) s.0 s.1 graph (ap length rest.logs) (scanned h e plain other new after graph rest brought) belongs.links
