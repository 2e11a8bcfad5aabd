-- `check` accepts only images that a text can hold: of at most `most_words` words.
use Rattle.std.specs.Prelude.{◌≡◌, ◌≢◌, ℕ, ◌<◌, ◌≤◌, ◌==◌, nat_le, IsTrue, Bool, if◌then◌else◌, List, Option, Some, None}
use Rattle.std.specs.Option.{option_map}
use Rattle.std.specs.List.{All, AllPairs, AllZip}
use Rattle.gc_graph.specs.Limits.{most_words}
use Rattle.gc_words.specs.Word.{read_value_within, read_correspond, words_correspond}
use Rattle.gc_words.specs.Image.{Image, Block, IsShaped, block_at}
use Rattle.gc_words.specs.Certificate.{Certified}
use Rattle.gc_words.specs.Fault.{◌or_else◌, shape_fault, first_over_pairs, table_fault, first_difference, same_header, first_fault, ArePlaced}
use Rattle.gc_words.specs.declared.header.Header.{Header}
use Rattle.gc_words.specs.declared.refusal.Refusal.{Refusal}
use Rattle.gc_words.specs.declared.refusal.Refusal.TheVariants.{OldShape, NewShape, HeaderDiffers, FieldDiffers, RootDiffers}

-- The certificate holds, and both images are small enough.
pub record CertifiedSmall (old new : Image) (pairs : List (ℕ × ℕ)) : Type 0 where
  pub old_small : old.size ≤ most_words
  pub new_small : new.size ≤ most_words
  pub certified : Certified old new pairs

-- the first fault of the shape of an image that must be small
abbrev pub small_shape_fault : Image → Option ℕ
small_shape_fault image = if nat_le image.size most_words then shape_fault image else Some 0

-- the first fault of the shapes of images that must be small, or else this one
abbrev pub small_shapes_or_else : Image → Image → Option Refusal → Option Refusal
small_shapes_or_else old new rest =
    option_map (λ at. OldShape at) (small_shape_fault old)
    or_else option_map (λ at. NewShape at) (small_shape_fault new)
    or_else rest

-- the first condition that fails, if the images must be small
abbrev pub first_small_fault : Image → Image → List (ℕ × ℕ) → Option Refusal
first_small_fault old new pairs = small_shapes_or_else old new (first_fault old new pairs)

-- the same before objects are compared
abbrev pub small_table_fault : Image → Image → List (ℕ × ℕ) → Option Refusal
small_table_fault old new pairs = small_shapes_or_else old new (table_fault old new pairs)

-- ---- the same as if a small space were the largest: an even word is a value only if its address is below `most_words`

-- `words_correspond` where only words of a small space are values
abbrev pub small_words_correspond : List (ℕ × ℕ) → ℕ → ℕ → Bool
small_words_correspond pairs v w = read_correspond pairs (read_value_within most_words v) (read_value_within most_words w)

-- the same for field words of objects with this header
abbrev pub small_field_words_correspond : Header → List (ℕ × ℕ) → ℕ → ℕ → Bool
small_field_words_correspond h pairs v w = if h.raw then v == w else small_words_correspond pairs v w

-- both objects exist, their headers are equal, and their fields correspond one by one
abbrev pub SmallBlocksCorrespond : List (ℕ × ℕ) → Option Block → Option Block → Type 0
SmallBlocksCorrespond pairs (Some a) (Some b) = (a.header ≡ b.header) × AllZip (λ v w. IsTrue (small_field_words_correspond a.header pairs v w)) a.fields b.fields
SmallBlocksCorrespond pairs a b = ⊥

-- `Certified` where only images of small spaces are shaped, and only their words are values
pub record CertifiedAsSmall (old new : Image) (pairs : List (ℕ × ℕ)) : Type 0 where
  pub old_small : old.size ≤ most_words
  pub new_small : new.size ≤ most_words
  pub old_shaped : IsShaped old
  pub new_shaped : IsShaped new
  pub objects : All (λ p. SmallBlocksCorrespond pairs (block_at old.words p.0) (block_at new.words p.1)) pairs
  pub rising : AllPairs (λ p q. p.1 < q.1) pairs
  pub once : AllPairs (λ p q. p.0 ≢ q.0) pairs
  pub roots : AllZip (λ v w. IsTrue (small_words_correspond pairs v w)) old.roots new.roots

-- the fault of the two objects of pair k
abbrev pub small_block_fault : List (ℕ × ℕ) → ℕ → Option Block → Option Block → Option Refusal
small_block_fault pairs k (Some a) (Some b) =
    if same_header a.header b.header then option_map (λ i. FieldDiffers k i) (first_difference (small_field_words_correspond a.header pairs) 0 a.fields b.fields)
    else Some (HeaderDiffers k)
small_block_fault pairs k a b = None

-- `first_fault` where only images of small spaces are shaped, and only their words are values
abbrev pub first_fault_as_small : Image → Image → List (ℕ × ℕ) → Option Refusal
first_fault_as_small old new pairs =
    small_table_fault old new pairs
    or_else first_over_pairs (λ k p. small_block_fault pairs k (block_at old.words p.0) (block_at new.words p.1)) 0 pairs
    or_else option_map (λ slot. RootDiffers slot) (first_difference (small_words_correspond pairs) 0 old.roots new.roots)

-- If small images are shaped and the addresses of the pairs have no fault, the same words correspond.
abbrev pub MeanTheSame : Image → Image → List (ℕ × ℕ) → Type 0
MeanTheSame old new pairs =
    IsShaped old → IsShaped new → old.size ≤ most_words → new.size ≤ most_words → ArePlaced old new pairs
    → small_words_correspond pairs ≡ words_correspond pairs
