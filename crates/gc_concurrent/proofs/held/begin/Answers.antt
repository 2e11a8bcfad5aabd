-- One seat becomes two, and the heap with which the collection begins is the mutator's.
use Rattle.std.proofs.Common.{◌≡◌, ℕ, List, length, ap, sym, ◌∙◌, subst, arith}
use Rattle.gc_words.specs.Space.{end_of}
use Rattle.gc_heap.specs.Heap.{HeapWords, IsHeap, graph_in}
use Rattle.gc_model.specs.Carried.{LeadsOnlyTo}
use Rattle.gc_concurrent.specs.Ends.{Mine, Theirs, opening_mine}
use Rattle.gc_concurrent.specs.Heaps.{heap_of}
use Rattle.gc_concurrent.specs.Unreachable.{MayBeCopied}
use Rattle.gc_concurrent.specs.Internal.Following.{Follows}
use Rattle.gc_concurrent.specs.Internal.Knowing.{Knows}
use Rattle.gc_concurrent.specs.Internal.Openings.{heap_opened}
use Rattle.gc_concurrent.specs.Internal.Rule.{Loose, Sat}
use Rattle.gc_concurrent.proofs.Keeping.{begins_kept}
use Rattle.gc_concurrent.proofs.Opening.{splits_rule}
use Rattle.gc_concurrent.proofs.TiedCells.{tied, tied_words}
use Rattle.gc_concurrent.proofs.held.begin.Goals as goal

pub split_seat-seat-requires : goal.split_seat-seat-requires
split_seat-seat-requires c =
    let o = c.args.opened in (
      tied _ _ _ c.deref.ensures o.row.0,
      (let w = tied_words _ _ _ _ c.deref.ensures o.row.0 o.row.2 in let s = o.sized.0 in let l = c.requires.sound.space.size_low in omega arith),
      splits_rule _ _ _ (ap (λ (m : Sat). m.0.writes) o.began) (ap (λ (m : Sat). m.0.copies) o.began),
    )

pub invariant_of-result-2 : goal.invariant_of-result-2
invariant_of-result-2 c =
    let o = c.args.opened in
    let heap : HeapWords = heap_opened o in
    let mine : c.split_seat-seat.result.me.0.mine ≡ opening_mine heap = ap (λ (m : Sat). m.0.mine) c.split_seat-seat.ensures.4 ∙ ap (λ (m : Sat). m.0.mine) o.began in
    record {
      ended = ap (λ (m : Mine). length m.space.words) mine ∙ sym o.sized.1;
      sound = subst (λ (m : Mine). IsHeap (heap_of m o.roots.items)) (sym mine) c.requires.sound;
      behind = (let e = ap (λ (m : Mine). end_of m.base.heap.space) mine in let l = o.sized.1 in omega arith);
      leads = subst (λ (m : Mine). LeadsOnlyTo (MayBeCopied m.base) (graph_in (heap_of m o.roots.items))) (sym mine) (begins_kept heap c.requires.sound);
    }

pub invariant_of-result-3-clause-loose : goal.invariant_of-result-3-clause-loose
invariant_of-result-3-clause-loose c =
    subst (λ (t : Theirs). ∥ Loose t ∥₁) (sym (ap (λ (m : Sat). m.0.theirs) c.split_seat-seat.ensures.2)) c.args.opened.loose

pub invariant_of-result-3-clause-along : goal.invariant_of-result-3-clause-along
invariant_of-result-3-clause-along c =
    subst (λ (z : List ℕ × List ℕ). ∥ Follows c.args.standing z.0 z.1 ∥₁)
    (λ i. (sym (ap (λ (m : Sat). m.0.seen) c.split_seat-seat.ensures.2 ∙ ap (λ (m : Sat). m.0.seen) c.args.opened.began) i, sym c.args.spare.small.1 i)) c.requires.along

pub invariant_of-result-3-clause-knows : goal.invariant_of-result-3-clause-knows
invariant_of-result-3-clause-knows c =
    let split = c.split_seat-seat.ensures.2 in
    let began = c.args.opened.began in
    subst (λ (z : List ℕ × (List ℕ × Theirs)). ∥ Knows c.args.standing z.0 z.1.0 z.1.1 ∥₁)
    (λ i. (sym (ap (λ (m : Sat). m.0.seen) split ∙ ap (λ (m : Sat). m.0.seen) began) i, (sym c.args.spare.small.1 i, sym (ap (λ (m : Sat). m.0.theirs) split ∙ ap (λ (m : Sat). m.0.theirs) began) i))) c.requires.knows
