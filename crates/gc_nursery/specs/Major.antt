-- A major collection that is open while minor collections happen: it replicates old objects alone.
use Rattle.std.specs.Prelude.{◌≡◌, ℕ, List, slice_get, Some, IsTrue, IsFalse}
use Rattle.gc_graph.specs.Correspond.{paired}
use Rattle.gc_words.specs.Word.{words_correspond}
use Rattle.gc_words.specs.Image.{Block, block_at, field_at}
use Rattle.gc_nursery.specs.Minor.{is_young}

-- Each field of an original is due, refers to a young object, or corresponds to the replica's field. What is due has yet to be
-- scanned, or is logged.
pub record IsUnderWay (base : ℕ) (words replicas : List ℕ) (pairs due : List (ℕ × ℕ)) : Type 0 where
  pub each : (a b i v w : ℕ) (o : Block) → IsTrue (paired pairs a b) → block_at words a ≡ Some o → IsFalse o.header.raw
      → slice_get o.fields i ≡ Some v → field_at replicas b i ≡ Some w
      → IsFalse (paired due a i) → IsFalse (is_young base v) → IsTrue (words_correspond pairs v w)
