-- The object at the end, with a reference to it in the root, is what the roomy machine makes, and it takes its fields.
use Rattle.std.proofs.Common.{◌≡◌, ◌*◌, ◌<◌, length, ap, ◌∙◌, sym, subst, arith}
use Rattle.std.specs.Prelude.{slice_set}
use Rattle.gc_words.specs.Space.{CanPlace, end_of, with_object}
use Rattle.gc_words.specs.declared.header.Header.{Header}
use Rattle.gc_heap.specs.contracts.heap.Heap.{the_view}
use Rattle.gc_heap.specs.Heap.{HeapWords, IsHeap}
use Rattle.gc_heap.specs.Filling.{TakesFields}
use Rattle.gc_heap.proofs.Commands.{made_heap}
use Rattle.gc_heap.proofs.Filling.{new_takes}
use Rattle.gc_heap.proofs.Steps.{with_new}
use Rattle.gc_heap.proofs.heap.Heap.make_at.Goals as goal
use Rattle.gc_heap.proofs.heap.Heap.make_at.Goals.{After-encode}

abbrev header : After-encode → Header
header c = record { raw = c.args.raw; kind = c.args.kind; len = c.args.len }

-- the heap after the writes
abbrev left : After-encode → HeapWords
left c = record (the_view c.self.inside) { space = c.place-at.new.self; roots = slice_set c.self.inside.roots.items c.args.place c.encode.result }

can : (c : After-encode) → CanPlace c.self.inside.space (header c)
can c = record { shaped = c.self.invariant.space; header = record { kind = omega arith; len = omega arith }; room = c.has_room.ensures.0 c.if-not-has_room.false }

after : (c : After-encode) → with_new (the_view c.self.inside) c.args.place (header c) ≡ left c
after c =
    let space = c.place-at.ensures.words ∙ ap (with_object c.self.inside.space) c.header_of.ensures in
    let word = c.encode.ensures.word ∙ ap (λ n. 2 * n) c.place-at.ensures.at in
    λ i. record (left c) { space = sym space i; roots = slice_set c.self.inside.roots.items c.args.place (sym word i) }

sound : (c : After-encode) → IsHeap (left c)
sound c = subst IsHeap (after c) (made_heap _ c.args.place (header c) c.self.invariant (can c))

pub invariant_of-self : goal.invariant_of-self
invariant_of-self c = sound (goal.at.invariant_of-self c).After-encode

pub returns-clause-sound : goal.returns-clause-sound
returns-clause-sound c = sound (goal.at.returns-clause-sound c).After-encode

pub returns-clause-fields : goal.returns-clause-fields
returns-clause-fields c = λ made plain.
    let e = (goal.at.returns-clause-fields c).After-encode in
    let inside = subst (λ (h : HeapWords). c.args.place < length h.roots) (sym c.self.view_is) c.requires in
    subst (λ (h : HeapWords). TakesFields (left e) c.args.place (end_of h.space) c.args.len) c.self.view_is
    (subst (λ h. TakesFields h c.args.place (end_of c.self.inside.space) c.args.len) (after e) (new_takes _ c.args.place (header e) c.self.invariant (can e) inside plain))
