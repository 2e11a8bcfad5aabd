-- What it means that two lists of words first differ at a place, or that an image's shape is first wrong at an address.
use Rattle.std.specs.Prelude.{◌≡◌, ◌<◌, ◌≤◌, IsTrue, ℕ, zero, suc, Bool, false, List, [], ◌∷◌, length, slice_index, Option, Some, None, ⊤}
use Rattle.std.specs.List.{slice_get}
use Rattle.gc_graph.specs.Limits.{largest_space}
use Rattle.gc_words.specs.Image.{Image}
use Rattle.gc_words.specs.Walking.{next_in}

-- ---- lists of words

-- both words are there and correspond
abbrev pub AreAlike : (ℕ → ℕ → Bool) → Option ℕ → Option ℕ → Type 0
AreAlike alike (Some v) (Some w) = IsTrue (alike v w)
AreAlike alike v w = ⊥

-- both words are there and do not correspond, or only one is there
abbrev pub AreDifferent : (ℕ → ℕ → Bool) → Option ℕ → Option ℕ → Type 0
AreDifferent alike (Some v) (Some w) = alike v w ≡ false
AreDifferent alike None None = ⊥
AreDifferent alike v w = ⊤

-- the lists differ at place i, and not before
pub record DifferFirstAt (alike : ℕ → ℕ → Bool) (vs ws : List ℕ) (i : ℕ) : Type 0 where
  pub before : (k : ℕ) → k < i → AreAlike alike (slice_get vs k) (slice_get ws k)
  pub here : AreDifferent alike (slice_get vs i) (slice_get ws i)

-- ---- shapes

-- what a shaped image has besides its objects: its sizes fit, there are as many words as its end says, and word 0 is 0
abbrev pub IsFramed : Image → Type 0
IsFramed image = (1 ≤ image.size) × (image.size ≤ largest_space) × (1 ≤ image.end) × (image.end ≤ image.size) × (length image.words ≡ image.end) × (slice_index image.words 0 ≡ 0)

-- objects lie back to back from one address up to another; `nexts` are the addresses after each of them
abbrev pub LieBetween : Bool → List ℕ → ℕ → List ℕ → ℕ → Type 0
LieBetween raws words from [] to = from ≡ to
LieBetween raws words from (next ∷ nexts) to = (next_in raws words from ≡ Some next) × LieBetween raws words next nexts to

-- objects lie back to back up to this address, but words are left, and no object starts there that ends within them
pub record StopsAt (raws : Bool) (words : List ℕ) (from at : ℕ) : Type 0 where
  pub nexts : List ℕ
  pub objects : LieBetween raws words from nexts at
  pub inside : at < length words
  pub none : next_in raws words at ≡ None

-- the image's shape is wrong at this address, and right before it; address 0 stands for the sizes and word 0
abbrev pub ShapeFailsAt : Image → ℕ → Type 0
ShapeFailsAt image zero = IsFramed image → ⊥
ShapeFailsAt image (suc at) = IsFramed image × StopsAt image.raws image.words 1 (suc at)
