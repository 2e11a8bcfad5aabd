-- Of the extra roots so far, what has no mark corresponds; the others count as compared only if they did before.
use Rattle.std.proofs.Common.{◌≡◌, ◌⊎◌, ◌+◌, ◌<◌, ◌≤◌, ℕ, true, false}
use Rattle.std.specs.Prelude.{slice_index}
use Rattle.gc_words.specs.Marks.{is_marked}
use Rattle.gc_words.specs.Word.{words_correspond}
use Rattle.gc_monitor.specs.Origins.{pairs_in}
use Rattle.gc_roots.specs.Looks.{CorrespondAt}
use Rattle.gc_roots.proofs.root_looks.RootLooks.look_on.Given as goal

abbrev pub invariant-loop-k : goal.invariant-loop-k
invariant-loop-k l = record {
  room : l.self.room ≡ l.fn.self.room;
  looked : (i : ℕ) → l.fn.at.from ≤ i → i < l.k → i < l.self.front → is_marked l.self.marks i ≡ false
      → words_correspond (pairs_in l.standing.origins) (slice_index l.roots (l.slots + i)) (slice_index l.twins (l.slots + i)) ≡ true;
  others : (i : ℕ) → (i < l.fn.at.from) ⊎ (l.k ≤ i) → i < l.self.front → is_marked l.self.marks i ≡ false → (i < l.fn.self.front) × (is_marked l.fn.self.marks i ≡ false);
  compared : CorrespondAt (pairs_in l.standing.origins) l.slots l.roots l.twins l.fn.at → l.fn.at.from ≤ l.fn.self.front → l.fn.at.to ≤ l.fn.self.room
      → (l.k ≤ l.self.front) × ((i : ℕ) → l.fn.at.from ≤ i → i < l.k → is_marked l.self.marks i ≡ false);
}
