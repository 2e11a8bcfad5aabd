-- The root's target is an object of the mutator's space, and may be copied.
use Rattle.std.proofs.Common.{◌≡◌, ℕ, ◌<◌, List, length, is_some, slice_index, refl, ap, sym, ◌∙◌, subst, arith}
use Rattle.gc_graph.specs.Graph.{Ref}
use Rattle.gc_words.specs.Word.{value_of}
use Rattle.gc_heap.specs.Heap.{HeapWords}
use Rattle.gc_heap.proofs.Public.{read_root}
use Rattle.gc_concurrent.specs.declared.held.Held.{Held}
use Rattle.gc_concurrent.specs.Holders.{heap_held}
use Rattle.gc_concurrent.specs.Moves.{half}
use Rattle.gc_concurrent.proofs.Memory.{claim_low, claimed}
use Rattle.gc_concurrent.proofs.Rooting.{near, root_own, target_kept}
use Rattle.gc_concurrent.proofs.held.Held.place_root.Goals as goal
use Rattle.gc_concurrent.proofs.held.Held.place_root.Goals.{After-as_slice}

-- the word that was read is that of the root
word_is : (c : After-as_slice) → value_of c.index-word.result.now ≡ value_of (slice_index c.args.self.now.roots.items c.args.k)
word_is c =
    let h : HeapWords = heap_held c.args.self.now in
    ap value_of (read_root h h.roots c.args.k c.index-word.result.now refl c.requires.root c.index-word.ensures)

refers : (c : After-as_slice) (a : ℕ) → value_of c.index-word.result.now ≡ Ref a → value_of (slice_index c.args.self.now.roots.items c.args.k) ≡ Ref a
refers c a is = sym (word_is c) ∙ is

-- a target that has a claim has a replica
pub returns-in-Ok-clause-placed : goal.returns-in-Ok-clause-placed
returns-in-Ok-clause-placed c _ a is =
    let h : Held = c.args.self.now in
    let placed = c.in-Ok.ensures.placed a (word_is (goal.at.returns-in-Ok-clause-placed c).After-as_slice ∙ is) in
    ap is_some (claimed h.copier.claims.items h.copier.seat.me.0.theirs a h.copier.claimed (root_own h c.args.k a c.requires.root is) (λ none. placed (ap (λ (row : List ℕ). slice_index row (half a)) c.as_slice.ensures.value ∙ none))).1

pub moved_word-moved-requires-clause-inside : goal.moved_word-moved-requires-clause-inside
moved_word-moved-requires-clause-inside c a is =
    let h : Held = c.args.self.now in
    let n = near h c.args.k a c.requires.root (refers c a is) in
    let m = ap (length {A = ℕ}) c.as_slice.ensures.value in let g = h.copier.claimed.long in omega arith

pub moved_word-moved-requires-clause-places : goal.moved_word-moved-requires-clause-places
moved_word-moved-requires-clause-places c =
    let a = c.args.self.now.copier in
    subst (λ (row : List ℕ). (x : ℕ) → slice_index row x < 4294967295) (sym c.as_slice.ensures.value) (claim_low a.claims.items a.seat.me.0.theirs a.loose a.claimed)

pub want-requires-clause-low : goal.want-requires-clause-low
want-requires-clause-low c =
    let h : Held = c.args.self.now in
    let e = (goal.at.want-requires-clause-low c).After-as_slice in
    let n = near h c.args.k c.in-Err.at.0 c.requires.root (refers e c.in-Err.at.0 c.in-Err.ensures.wanted.0) in
    let s = h.copier.sized.0 in omega arith

pub want-requires-clause-allowed : goal.want-requires-clause-allowed
want-requires-clause-allowed c =
    let e = (goal.at.want-requires-clause-allowed c).After-as_slice in
    target_kept c.args.self.now c.args.k c.in-Err.at.0 c.requires.root (refers e c.in-Err.at.0 c.in-Err.ensures.wanted.0)
