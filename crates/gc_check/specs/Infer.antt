-- Pairs that are inferred from two images alone.
use Rattle.std.specs.Prelude.{◌≡◌, ℕ, ◌==◌, Bool, false, ◌||◌, List, slice_get, Option, Some, IsTrue, ⊤}
use Rattle.std.specs.List.{All, list_any}
use Rattle.gc_graph.specs.Graph.{Ref, at_path}
use Rattle.gc_graph.specs.Correspond.{paired}
use Rattle.gc_words.specs.Word.{read_value}
use Rattle.gc_words.specs.Image.{Image, Block, block_at, is_start, graph_of}
use Rattle.gc_words.specs.Certificate.{Certified}
use Rattle.gc_words.specs.Fault.{AreComparable}
use Rattle.gc_check.specs.Headline.{Replicated}
use Rattle.gc_check.specs.Verdict.{verdict_of}
use Rattle.gc_check.specs.declared.verdict.Verdict.{Verdict}
use Rattle.gc_check.specs.declared.verdict.Verdict.TheVariants as verdict

-- some certificate holds of the two images
abbrev pub Certifiable : Image → Image → Type 0
Certifiable old new = (pairs : List (ℕ × ℕ)) × Certified old new pairs

-- every certificate that holds of the two images has these pairs
abbrev pub AreForced : Image → Image → List (ℕ × ℕ) → Type 0
AreForced old new forced = (pairs : List (ℕ × ℕ)) → Certified old new pairs → All (λ p. IsTrue (paired pairs p.0 p.1)) forced

-- some path finds a reference to `a` in the old heap, and one to `b` in the new heap
abbrev pub Together : Image → Image → ℕ → ℕ → Type 0
Together old new a b = (place : ℕ) × (fields : List ℕ) × (at_path (graph_of old) place fields ≡ Some (Ref a)) × (at_path (graph_of new) place fields ≡ Some (Ref b))

-- the same path finds the two objects of each pair
abbrev pub AreTogether : Image → Image → List (ℕ × ℕ) → Type 0
AreTogether old new pairs = All (λ p. Together old new p.0 p.1) pairs

-- ---- all objects that the same path finds

-- `a` is the original of a pair, or `b` is the replica of one
abbrev pub is_taken : List (ℕ × ℕ) → ℕ → ℕ → Bool
is_taken pairs a b = list_any (λ q. q.0 == a) pairs || list_any (λ q. q.1 == b) pairs

-- if the words refer to objects, one of these is in a pair
abbrev pub RefersToPairs : Image → Image → List (ℕ × ℕ) → ℕ → ℕ → Type 0
RefersToPairs old new pairs v w = (a b : ℕ) → read_value v ≡ Some (Ref a) → read_value w ≡ Some (Ref b) → IsTrue (is_start old.words a) → IsTrue (is_start new.words b) → IsTrue (is_taken pairs a b)

-- the same for the words at each place of two lists
abbrev pub LeadsToPairs : Image → Image → List (ℕ × ℕ) → List ℕ → List ℕ → Type 0
LeadsToPairs old new pairs vs ws = (i v w : ℕ) → slice_get vs i ≡ Some v → slice_get ws i ≡ Some w → RefersToPairs old new pairs v w

-- the same for the fields of two objects with equal headers that are not raw
abbrev pub ObjectsLeadToPairs : Image → Image → List (ℕ × ℕ) → Option Block → Option Block → Type 0
ObjectsLeadToPairs old new pairs (Some a) (Some b) = a.header ≡ b.header → a.header.raw ≡ false → LeadsToPairs old new pairs a.fields b.fields
ObjectsLeadToPairs old new pairs a b = ⊤

-- the roots and the fields of the pairs lead to no further pair
pub record AreClosed (old new : Image) (pairs : List (ℕ × ℕ)) : Type 0 where
  pub roots : LeadsToPairs old new pairs old.roots new.roots
  pub objects : All (λ p. ObjectsLeadToPairs old new pairs (block_at old.words p.0) (block_at new.words p.1)) pairs

-- what a verdict on inferred pairs says: after a yes they hold, and with them the soundness theorem; after a refusal no
-- certificate holds
abbrev pub Decides : Verdict → Image → Image → List (ℕ × ℕ) → Type 0
Decides (verdict.Yes count) old new pairs = Certified old new pairs × Replicated old new pairs
Decides (verdict.Refused refusal) old new pairs = Certifiable old new → ⊥

-- what `compare` returns: pairs that it inferred, and the verdict on them
pub record IsComparison (old new : Image) (pairs : List (ℕ × ℕ)) (verdict : Verdict) : Type 0 where
  pub forced : AreForced old new pairs
  pub together : AreTogether old new pairs
  pub closed : AreComparable old new → AreClosed old new pairs
  pub verdict_is : verdict ≡ verdict_of old new pairs
  pub decides : Decides verdict old new pairs
