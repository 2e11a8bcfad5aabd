-- What an original's link has above the mark is the address of its replica, or 0 if it has none.
use Rattle.std.proofs.Common.{◌≡◌, ℕ, ◌-◌, ◌<◌, true, ap, sym, ◌∙◌, subst}
use Rattle.std.proofs.Common.{rules}
use Rattle.std.specs.Prelude.{◌^◌}
use Rattle.gc_words.specs.Image.{is_start}
use Rattle.gc_words.specs.Spelling.{link_at}
use Rattle.gc_words.specs.Space.{SpaceWords}
use Rattle.gc_heap.specs.Heap.{HeapWords}
use Rattle.gc_copy.specs.Words.{CollectionWords, IsCollection, mark_of, BelongsTo}
use Rattle.gc_copy.proofs.OpenCollection.{Tells, link_tells}
use Rattle.gc_copy.proofs.collection.Collection.replica_of.Goals as goal

-- what an original's link has above the mark is its replica's address, or 0
told : (heap : HeapWords) (inner outer : CollectionWords) (a place : ℕ) (s : SpaceWords) → inner ≡ outer → IsCollection inner → BelongsTo heap outer → is_start heap.space.words a ≡ true → s ≡ heap.space → place ≡ link_at s.words a - mark_of inner.epoch → Tells outer a place
told heap inner outer a place s seen is k start same read =
    link_tells heap outer a place (subst IsCollection seen is) k start
    (read ∙ ap (λ (s : SpaceWords). link_at s.words a - mark_of inner.epoch) same ∙ ap (λ (y : CollectionWords). link_at heap.space.words a - mark_of y.epoch) seen)

pub overflow_cast-result : goal.overflow_cast-result
overflow_cast-result c =
    let small : c.saturating_sub-place.result < 2 ^ 32 = (told c.args.heap.now _ c.args.self.now c.args.original.0 c.saturating_sub-place.result _ c.self.view_is c.self.invariant.0 c.requires.belongs c.requires.start c.space.ensures.value (c.saturating_sub-place.ensures ∙ (λ i. c.link.ensures i - c.link_mark.ensures i))).small in
    search rules

pub returns-then-place-eq0-clause-place : goal.returns-then-place-eq0-clause-place
returns-then-place-eq0-clause-place c = sym ((told c.args.heap.now _ c.args.self.now c.args.original.0 c.saturating_sub-place.result _ c.self.view_is c.self.invariant.0 c.requires.belongs c.requires.start c.space.ensures.value (c.saturating_sub-place.ensures ∙ (λ i. c.link.ensures i - c.link_mark.ensures i))).none c.if-place-eq0.true)

pub returns-else-place-eq0-clause-place : goal.returns-else-place-eq0-clause-place
returns-else-place-eq0-clause-place c = sym ((told c.args.heap.now _ c.args.self.now c.args.original.0 c.saturating_sub-place.result _ c.self.view_is c.self.invariant.0 c.requires.belongs c.requires.start c.space.ensures.value (c.saturating_sub-place.ensures ∙ (λ i. c.link.ensures i - c.link_mark.ensures i))).some c.if-place-eq0.false)

pub returns-else-place-eq0-clause-address : goal.returns-else-place-eq0-clause-address
returns-else-place-eq0-clause-address c = (told c.args.heap.now _ c.args.self.now c.args.original.0 c.saturating_sub-place.result _ c.self.view_is c.self.invariant.0 c.requires.belongs c.requires.start c.space.ensures.value (c.saturating_sub-place.ensures ∙ (λ i. c.link.ensures i - c.link_mark.ensures i))).address c.if-place-eq0.false
