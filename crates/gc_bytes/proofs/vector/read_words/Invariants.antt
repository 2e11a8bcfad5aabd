-- The words so far are copied, and the next one's top bit is known.
use Rattle.std.proofs.Common.{◌≡◌, ◌<◌, ◌+◌, ◌/◌, ◌%◌, ℕ, get_or, length}
use Rattle.gc_bytes.specs.Vector.{word_at, words_in}
use Rattle.gc_bytes.proofs.vector.read_words.Given as goal

abbrev pub invariant-loop-k : goal.invariant-loop-k
invariant-loop-k l = record {
  copied : (i : ℕ) → i < l.k → get_or l.out i 0 ≡ word_at l.fields (l.at + i);
  tops : l.tops ≡ words_in (length l.fields) + (l.at + l.k) / 63;
  bit : l.bit ≡ (l.at + l.k) % 63;
}
