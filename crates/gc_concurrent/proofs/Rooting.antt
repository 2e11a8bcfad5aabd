-- Roots of a mutator that is held, and the replicas of their targets.
use Rattle.std.proofs.Common.{◌≡◌, ◌⊎◌, ℕ, ◌+◌, ◌<◌, ◌≤◌, List, length, slice_index, refl, ap, sym, ◌∙◌, subst, inr, ⊎_elim, arith}
use Rattle.std.specs.Prelude.{IsSome}
use Rattle.std.proofs.lemmas.Bool.{cases_lt}
use Rattle.gc_graph.specs.Graph.{Ref}
use Rattle.gc_words.specs.Space.{end_of}
use Rattle.gc_words.specs.Word.{value_of}
use Rattle.gc_words.specs.Closed.{RefersToStart}
use Rattle.gc_heap.specs.Heap.{HeapWords}
use Rattle.gc_model.specs.State.{replica_of}
use Rattle.gc_concurrent.specs.Nearing.{ComesNearer}
use Rattle.gc_concurrent.specs.Unreachable.{MayBeCopied}
use Rattle.gc_concurrent.specs.Ends.{Theirs, its}
use Rattle.gc_concurrent.specs.declared.held.Held.{Held}
use Rattle.gc_concurrent.specs.Holders.{heap_held, known_to, StaysOrIsNearer}
use Rattle.gc_concurrent.specs.Internal.Copiers.{HasOwnHalf, KeepsReplicas}
use Rattle.gc_concurrent.proofs.Halves.{own_there}
use Rattle.gc_concurrent.proofs.Keeping.{target_leads}
use Rattle.gc_concurrent.proofs.Turn.{root_fine, root_near, value_in}

-- the target of a root is an object of the mutator's space
pub near : (h : Held) (k a : ℕ) → k < length h.roots.items → value_of (slice_index h.roots.items k) ≡ Ref a → a + 2 ≤ h.copier.seat.me.0.theirs.old
near h k a l is = let n = root_near h.copier.seat.me.0.mine h.roots.items h.sound k a l is in let e = h.ended.1 in let s = h.copier.sized.0 in omega arith

-- and may be copied
pub target_kept : (h : Held) (k a : ℕ) → k < length h.roots.items → value_of (slice_index h.roots.items k) ≡ Ref a → MayBeCopied h.copier.seat.me.0.mine.base a
target_kept h k a l is =
    target_leads (MayBeCopied h.copier.seat.me.0.mine.base) (Ref a) a (h.leads.roots (Ref a) (value_in h.roots.items k (Ref a) l is)) refl

-- with both ends at hand: no other original starts at an address with the same half
pub root_own : (h : Held) (k a : ℕ) → k < length h.roots.items → value_of (slice_index h.roots.items k) ≡ Ref a → HasOwnHalf h.copier.seat.me.0.theirs a
root_own h k a l is =
    let m = h.copier.seat.me.0.mine in
    own_there m h.copier.seat.me.0.theirs (h.sound).space (h.ended.1 ∙ sym h.copier.sized.0) h.starts_there a (subst (RefersToStart m.space.words) is (root_fine m h.roots.items h.sound k l).start)

-- the targets of the roots before place n, and of the one there
pub placed_next : (t u : Theirs) (roots : List ℕ) (n : ℕ) → KeepsReplicas t u → ((j a : ℕ) → j < n → value_of (slice_index roots j) ≡ Ref a → IsSome (replica_of (its t) a))
    → ((a : ℕ) → value_of (slice_index roots n) ≡ Ref a → IsSome (replica_of (its u) a)) → (j a : ℕ) → j < n + 1 → value_of (slice_index roots j) ≡ Ref a → IsSome (replica_of (its u) a)
placed_next t u roots n keeps before here j a less is = ⊎_elim
    (λ (low : j < n). keeps a (before j a low is))
    (λ (high : n ≤ j). here a (subst (λ (x : ℕ). value_of (slice_index roots x) ≡ Ref a) (let e : j ≡ n = omega arith in e) is))
    (cases_lt j n)

-- one after the other
stays_or_nears : (end last : ℕ) (a b c : Theirs) → last ≡ end → (b ≡ a) ⊎ ComesNearer end a b → (c ≡ b) ⊎ ComesNearer last b c → (c ≡ a) ⊎ ComesNearer end a c
stays_or_nears end last a b c at first second = ⊎_elim
    (λ (same : b ≡ a). subst (λ (z : ℕ × Theirs). (c ≡ z.1) ⊎ ComesNearer z.0 z.1 c) (λ i. (at i, same i)) second)
    (λ (less : ComesNearer end a b). ⊎_elim
    (λ (same : c ≡ b). inr (subst (ComesNearer end a) (sym same) less))
    (λ (more : ComesNearer last b c). inr (let m = subst (λ (z : ℕ). ComesNearer z b c) at more in omega arith))
    second)
    first

pub nearer_then : (a b c : Held) → heap_held b ≡ heap_held a → StaysOrIsNearer a b → StaysOrIsNearer b c → StaysOrIsNearer a c
nearer_then a b c same first second =
    stays_or_nears (end_of (heap_held a).space) (end_of (heap_held b).space) (known_to a.copier) (known_to b.copier) (known_to c.copier) (ap (λ (h : HeapWords). end_of h.space) same) first second
