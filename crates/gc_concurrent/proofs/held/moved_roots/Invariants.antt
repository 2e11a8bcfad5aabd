-- The roots so far are moved, their targets have claims, and there is room for the others.
use Rattle.std.proofs.Common.{◌≡◌, ◌≢◌, ℕ, ◌<◌, ◌≤◌, length, map, take, slice_index, vec_capacity}
use Rattle.gc_graph.specs.Graph.{Ref}
use Rattle.gc_words.specs.Word.{value_of, word_of}
use Rattle.gc_concurrent.specs.Moves.{half}
use Rattle.gc_concurrent.specs.Internal.Copiers.{moved_by}
use Rattle.gc_concurrent.proofs.held.moved_roots.Given as goal

abbrev pub invariant-loop-k : goal.invariant-loop-k
invariant-loop-k l = record {
  moved : l.moved.items ≡ map (λ w. word_of (moved_by l.claims (value_of w))) (take l.k l.roots);
  room : length l.roots ≤ vec_capacity l.moved;
  placed : (j a : ℕ) → j < l.k → value_of (slice_index l.roots j) ≡ Ref a → slice_index l.claims (half a) ≢ 0;
}
