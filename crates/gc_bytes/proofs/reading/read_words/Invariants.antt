-- The bytes of the words so far are copied.
use Rattle.std.proofs.Common.{◌≡◌, ◌*◌, take}
use Rattle.gc_bytes.specs.Text.{bytes_of}
use Rattle.gc_bytes.proofs.reading.read_words.Given as goal

abbrev pub invariant-loop-w : goal.invariant-loop-w
invariant-loop-w l = take (7 * l.w) l.out ≡ take (7 * l.w) (bytes_of l.words)
