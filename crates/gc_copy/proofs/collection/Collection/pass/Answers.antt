-- Moving the scan pointer behind a replica that is raw or scanned is the model's scan.
use Rattle.std.proofs.Common.{rules, ◌≡◌, ◌+◌, ◌<◌, true, false, is_some, ap, sym, ◌∙◌, subst, arith}
use Rattle.std.specs.Prelude.{◌^◌}
use Rattle.gc_words.specs.Image.{is_start}
use Rattle.gc_words.proofs.Public.{block_of_header, stands_in}
use Rattle.gc_heap.specs.Heap.{HeapWords}
use Rattle.gc_model.specs.Steps.{scan_done}
use Rattle.gc_model.specs.declared.step.StepReply.TheVariants.{Passed}
use Rattle.gc_copy.specs.Words.{CollectionWords, IsCollection, BelongsTo, collection_in, open_state}
use Rattle.gc_copy.proofs.Scanning.{left_at_start, passed, passed_belongs}
use Rattle.gc_copy.proofs.collection.Collection.pass.Goals as goal
use Rattle.gc_copy.proofs.collection.Collection.pass.Goals.{After-object_words}

module _ (c : After-object_words) where
  abbrev x : CollectionWords
  x = c.args.self.now

  is : IsCollection x
  is = subst IsCollection c.self.view_is c.self.invariant.0

  start : is_start x.space.words x.scan_place ≡ true
  start = let b = block_of_header x.space.words x.scan_place c.args.header c.requires.header in ap is_some b.1

  place_is : c.self.inside.scan_place.0 + c.object_words.result ≡ x.scan_place + (c.args.header.len + 2)
  place_is =
      let at : c.self.inside.scan_place.0 ≡ x.scan_place = ap (λ (y : CollectionWords). y.scan_place) c.self.view_is in
      let words : c.object_words.result ≡ c.len.result + 2 = c.object_words.ensures in
      let len : c.len.result ≡ c.args.header.len = c.len.ensures in
      omega arith

  small : c.self.inside.scan_place.0 + c.object_words.result < 2 ^ 32
  small =
      let b = block_of_header x.space.words x.scan_place c.args.header c.requires.header in
      let fits = (stands_in x.space.words x.scan_place b.0 (is.space).walked b.1).fits in
      let len : b.0.header.len ≡ c.args.header.len = ap (λ (h : Rattle.gc_words.specs.declared.header.Header.Header). h.len) b.2 in
      omega (arith, place_is, fits, len, (is.space).count, (is.space).end_high, (is.space).size_high)

  -- the collection belongs to the heap, and is not scanned to its end
  scanning : (heap : HeapWords) → BelongsTo heap x → IsCollection x × BelongsTo heap x × (scan_done (collection_in x) ≡ false)
  scanning heap k = (is, k, left_at_start x is start)

pub overflow_add-self : goal.overflow_add-self
overflow_add-self c =
    let fits : c.self.inside.scan_place.0 + c.object_words.result < 2 ^ 32 = small (goal.at.overflow_add-self c).After-object_words in
    search rules

pub returns-clause-passed : goal.returns-clause-passed
returns-clause-passed c = λ heap k.
    let at = (goal.at.returns-clause-passed c).After-object_words in
    passed heap c.args.self.now (scanning at heap k) c.args.header c.requires.header c.requires.scanned (c.self.inside.scan_place.0 + c.object_words.result) (place_is at)
    ∙ (λ j. (Passed, open_state heap (record (sym c.self.view_is j) { scan_place = c.self.inside.scan_place.0 + c.object_words.result; scan_field = 0 })))

pub returns-clause-belongs : goal.returns-clause-belongs
returns-clause-belongs c = λ heap k.
    let at = (goal.at.returns-clause-belongs c).After-object_words in
    subst (λ (y : CollectionWords). BelongsTo heap (record y { scan_place = c.self.inside.scan_place.0 + c.object_words.result; scan_field = 0 })) (sym c.self.view_is)
    (passed_belongs heap c.args.self.now (scanning at heap k) c.args.header c.requires.header c.requires.scanned (c.self.inside.scan_place.0 + c.object_words.result) (place_is at))
