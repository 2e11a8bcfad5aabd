-- An empty space is closed, and its standing checker has seen it.
use Rattle.std.proofs.Common.{rules, ◌≡◌, refl, ℕ, ◌+◌, ◌≤◌, List, [], ◌∷◌, length, replicate, sym, subst, ◌∙◌, arith}
use Rattle.std.proofs.lemmas.List.{length-replicate}
use Rattle.std.proofs.lemmas.List.Elements.{All-nil, All-replicate}
use Rattle.gc_heap.specs.ExtraRoots.{most_extra_roots}
use Rattle.gc_heap.specs.Heap.{HeapWords, IsHeap}
use Rattle.gc_concurrent.specs.Internal.Following.{Follows}
use Rattle.gc_words.specs.Image.{Block}
use Rattle.gc_words.specs.Closed.{HasFieldWords, IsRootWord}
use Rattle.gc_words.specs.Space.{SpaceWords, IsSpace, empty_space}
use Rattle.gc_concurrent.specs.Ends.{one_heap, opening_theirs}
use Rattle.gc_concurrent.specs.Internal.Knowing.{Knows}
use Rattle.gc_concurrent.proofs.Knowing.{opening_knows}
use Rattle.gc_concurrent.proofs.Comparing.{opening_follows}
use Rattle.gc_concurrent.proofs.held.open_ends.Goals as goal

empty_sound : (size extra : ℕ) → extra ≤ most_extra_roots → IsSpace (empty_space size) → IsHeap (one_heap (empty_space size) (replicate (32 + extra) 0))
empty_sound size extra few is =
    let many : length (one_heap (empty_space size) (replicate (32 + extra) 0)).roots ≡ 32 + extra = length-replicate (32 + extra) 0 in
    record {
      space = is;
      closed = record { fields = All-nil (λ (entry : ℕ × Block). HasFieldWords (0 ∷ []) entry.1); roots = All-replicate (IsRootWord (0 ∷ [])) (32 + extra) 0 (record { value = refl; start = tt }) };
      roots = omega arith;
      few = omega arith;
    }

pub begin-commander-requires-clause-sound : goal.begin-commander-requires-clause-sound
begin-commander-requires-clause-sound c =
    let roots : c.in_ok-roots.roots.items ≡ replicate (32 + c.args.extra) 0 = search (rules, c.in_ok-roots.ensures.items_if_clones_equal) in
    subst IsHeap (sym (c.in-Ok.ensures.heap ∙ (λ i. one_heap (c.in_ok-space.ensures.empty i) (roots i)))) (empty_sound c.args.size c.args.extra c.requires.extra (subst IsSpace c.in_ok-space.ensures.empty c.in_ok-space.ensures.shaped))

pub begin-requires : goal.begin-requires
begin-requires c =
    let roots : c.in_ok-roots.roots.items ≡ replicate (32 + c.args.extra) 0 = search (rules, c.in_ok-roots.ensures.items_if_clones_equal) in
    record { sound = subst (λ (z : SpaceWords × List ℕ). IsHeap (one_heap z.0 z.1)) (λ i. (sym c.in_ok-space.ensures.empty i, sym roots i)) (empty_sound c.args.size c.args.extra c.requires.extra (subst IsSpace c.in_ok-space.ensures.empty c.in_ok-space.ensures.shaped)) }

pub begin-commander-requires-clause-along : goal.begin-commander-requires-clause-along
begin-commander-requires-clause-along c =
    subst (λ (h : HeapWords). ∥ Follows c.in_ok-standing.standing h.space.words (0 ∷ []) ∥₁) (sym c.in-Ok.ensures.heap)
    (opening_follows c.in_ok-space.space c.args.size c.in_ok-standing.standing c.in_ok-space.ensures.shaped c.in_ok-standing.ensures)

pub begin-commander-requires-clause-knows : goal.begin-commander-requires-clause-knows
begin-commander-requires-clause-knows c =
    subst (λ (h : HeapWords). ∥ Knows c.in_ok-standing.standing h.space.words (0 ∷ []) (opening_theirs h h.space.size 1) ∥₁)
    (sym (c.in-Ok.ensures.heap ∙ (λ i. one_heap (c.in_ok-space.ensures.empty i) c.in_ok-roots.roots.items)))
    ∣ opening_knows c.in_ok-standing.standing c.args.size (one_heap (empty_space c.args.size) c.in_ok-roots.roots.items) c.in_ok-standing.ensures c.requires.size ∣₁

pub invariant_of-copier : goal.invariant_of-copier
invariant_of-copier c =
    let b = c.prepare.new.self in
    record { row = b.row; copies = b.copies; shaped = b.shaped; sized = b.sized; same = b.same; scans = b.scans; dues = b.dues; wants = b.wants; aimed = b.aimed; fills = b.fills; claimed = b.claimed; loose = b.loose; along = b.along; knows = b.knows; spared = b.spared }
