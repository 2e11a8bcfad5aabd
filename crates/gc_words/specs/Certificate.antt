-- When a certificate holds of two images.
use Rattle.std.specs.Prelude.{◌≡◌, ◌≢◌, ℕ, ◌<◌, List, Option, Some, IsTrue}
use Rattle.std.specs.List.{All, AllPairs, AllZip}
use Rattle.gc_words.specs.Word.{words_correspond, field_words_correspond}
use Rattle.gc_words.specs.Image.{Image, Block, IsShaped, block_at}

-- both objects exist, their headers are equal, and their fields correspond one by one
abbrev pub BlocksCorrespond : List (ℕ × ℕ) → Option Block → Option Block → Type 0
BlocksCorrespond pairs (Some a) (Some b) = (a.header ≡ b.header) × AllZip (λ v w. IsTrue (field_words_correspond a.header pairs v w)) a.fields b.fields
BlocksCorrespond pairs a b = ⊥

-- The certificate holds: its pairs map objects of the old image to their replicas in the new image.
pub record Certified (old new : Image) (pairs : List (ℕ × ℕ)) : Type 0 where
  pub old_shaped : IsShaped old
  pub new_shaped : IsShaped new
  -- the two objects of each pair correspond
  pub objects : All (λ p. BlocksCorrespond pairs (block_at old.words p.0) (block_at new.words p.1)) pairs
  -- new addresses rise, and no old address occurs twice
  pub rising : AllPairs (λ p q. p.1 < q.1) pairs
  pub once : AllPairs (λ p q. p.0 ≢ q.0) pairs
  -- the images have the same number of roots, and these correspond one by one
  pub roots : AllZip (λ v w. IsTrue (words_correspond pairs v w)) old.roots new.roots
