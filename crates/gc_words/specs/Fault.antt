-- The first condition of a certificate that fails.
use Rattle.std.specs.Prelude.{◌≡◌, ◌≢◌, ◌<◌, IsTrue, ℕ, suc, ◌==◌, nat_le, Bool, false, ◌&&◌, not, if◌then◌else◌, List, [], ◌∷◌, ◌++◌, length, take, slice_index, Option, Some, None}
use Rattle.std.specs.Bool.{then_some}
use Rattle.std.specs.Result.{result_err}
use Rattle.std.specs.Option.{option_map, option_or}
use Rattle.std.specs.List.{All, AllPairs, list_any}
use Rattle.gc_graph.specs.Limits.{largest_space}
use Rattle.gc_words.specs.Word.{words_correspond, field_words_correspond}
use Rattle.gc_words.specs.Image.{Image, Block, IsShaped, walk_all, block_at, is_start}
use Rattle.gc_words.specs.Certificate.{BlocksCorrespond}
use Rattle.gc_words.specs.declared.header.Header.{Header}
use Rattle.gc_words.specs.declared.refusal.Refusal.{Refusal}
use Rattle.gc_words.specs.declared.refusal.Refusal.TheVariants.{OldShape, NewShape, RootCount, OldNotStart, NewNotStart, NotRising, Twice, HeaderDiffers, FieldDiffers, RootDiffers}

infixl 20 ◌or_else◌
-- the first option if it has a value, else the second
abbrev pub ◌or_else◌ : {X : Type 0} → Option X → Option X → Option X
x or_else y = option_or x y

-- ---- shape

-- the address of the first fault in a space's words; its size is not checked
abbrev pub words_fault : Bool → ℕ → List ℕ → Option ℕ
words_fault raws end words = if (length words == end) && (slice_index words 0 == 0) then result_err (walk_all raws words) else Some 0

abbrev pub has_size : Image → Bool
has_size image = nat_le 1 image.size && nat_le image.size largest_space && nat_le 1 image.end && nat_le image.end image.size

abbrev pub shape_fault : Image → Option ℕ
shape_fault image = if has_size image then words_fault image.raws image.end image.words else Some 0

-- ---- pairs

-- the fault of the first pair that has one; the pairs are numbered from k
abbrev pub first_over_pairs : (ℕ → ℕ × ℕ → Option Refusal) → ℕ → List (ℕ × ℕ) → Option Refusal
first_over_pairs fault k [] = None
first_over_pairs fault k (p ∷ rest) = fault k p or_else first_over_pairs fault (suc k) rest

-- ---- before objects are compared: shapes, the number of roots, and the addresses of pairs

-- whether this new address is at most that of the last pair
abbrev pub not_above_last : List (ℕ × ℕ) → ℕ → Bool
not_above_last [] address = false
not_above_last (p ∷ []) address = nat_le address p.1
not_above_last (p ∷ q ∷ rest) address = not_above_last (q ∷ rest) address

-- the fault in the addresses of pair k, given the pairs before it
abbrev pub place_fault : Image → Image → List (ℕ × ℕ) → ℕ → ℕ × ℕ → Option Refusal
place_fault old new before k p =
    then_some (not (is_start old.words p.0)) (OldNotStart k)
    or_else then_some (not (is_start new.words p.1)) (NewNotStart k)
    or_else then_some (not_above_last before p.1) (NotRising k)
    or_else then_some (list_any (λ q. q.0 == p.0) before) (Twice k)

abbrev pub place_faults : Image → Image → List (ℕ × ℕ) → Option Refusal
place_faults old new pairs = first_over_pairs (λ k. place_fault old new (take k pairs) k) 0 pairs

abbrev pub table_fault : Image → Image → List (ℕ × ℕ) → Option Refusal
table_fault old new pairs =
    option_map (λ at. OldShape at) (shape_fault old)
    or_else option_map (λ at. NewShape at) (shape_fault new)
    or_else then_some (not (length old.roots == length new.roots)) RootCount
    or_else place_faults old new pairs

-- ---- objects

-- the first place at which two words do not correspond or one list has ended; places are numbered from i
abbrev pub first_difference : (ℕ → ℕ → Bool) → ℕ → List ℕ → List ℕ → Option ℕ
first_difference alike i [] [] = None
first_difference alike i (v ∷ vs) (w ∷ ws) = if alike v w then first_difference alike (suc i) vs ws else Some i
first_difference alike i vs ws = Some i

abbrev pub same_header : Header → Header → Bool
same_header g h = (if g.raw then h.raw else not h.raw) && (g.kind == h.kind) && (g.len == h.len)

abbrev pub block_fault : List (ℕ × ℕ) → ℕ → Option Block → Option Block → Option Refusal
block_fault pairs k (Some a) (Some b) =
    if same_header a.header b.header then option_map (λ i. FieldDiffers k i) (first_difference (field_words_correspond a.header pairs) 0 a.fields b.fields)
    else Some (HeaderDiffers k)
block_fault pairs k a b = None

-- the fault of the two objects of pair k
abbrev pub pair_fault : Image → Image → List (ℕ × ℕ) → ℕ → ℕ × ℕ → Option Refusal
pair_fault old new pairs k p = block_fault pairs k (block_at old.words p.0) (block_at new.words p.1)

abbrev pub object_faults : Image → Image → List (ℕ × ℕ) → Option Refusal
object_faults old new pairs = first_over_pairs (pair_fault old new pairs) 0 pairs

-- ---- roots

abbrev pub root_fault : Image → Image → List (ℕ × ℕ) → Option Refusal
root_fault old new pairs = option_map (λ slot. RootDiffers slot) (first_difference (words_correspond pairs) 0 old.roots new.roots)

-- the first fault: in shapes, the number of roots and addresses, then in objects, then in roots
abbrev pub first_fault : Image → Image → List (ℕ × ℕ) → Option Refusal
first_fault old new pairs = table_fault old new pairs or_else object_faults old new pairs or_else root_fault old new pairs

-- ---- the first fault as a relation

-- P holds of pair k and the pairs before it
pub record PairAt (pairs : List (ℕ × ℕ)) (k : ℕ) (P : List (ℕ × ℕ) → ℕ × ℕ → Type 0) : Type 0 where
  pub before : List (ℕ × ℕ)
  pub pair : ℕ × ℕ
  pub rest : List (ℕ × ℕ)
  pub whole : pairs ≡ before ++ pair ∷ rest
  pub place : length before ≡ k
  pub holds : P before pair

-- the first conditions: both images are shaped and have the same number of roots
pub record AreComparable (old new : Image) : Type 0 where
  pub old_shaped : IsShaped old
  pub new_shaped : IsShaped new
  pub roots : length old.roots ≡ length new.roots

-- the conditions on addresses: objects start at them, new addresses rise, and no old address occurs twice
pub record ArePlaced (old new : Image) (pairs : List (ℕ × ℕ)) : Type 0 where
  pub starts : All (λ p. IsTrue (is_start old.words p.0) × IsTrue (is_start new.words p.1)) pairs
  pub later : AllPairs (λ p q. (p.0 ≢ q.0) × (p.1 < q.1)) pairs

-- the conditions on objects: the two objects of each of the pairs `some` correspond
abbrev pub ObjectsMatch : Image → Image → List (ℕ × ℕ) → List (ℕ × ℕ) → Type 0
ObjectsMatch old new pairs some = All (λ p. BlocksCorrespond pairs (block_at old.words p.0) (block_at new.words p.1)) some

abbrev pub HeadersDiffer : Option Block → Option Block → Type 0
HeadersDiffer (Some a) (Some b) = a.header ≢ b.header
HeadersDiffer a b = ⊥

abbrev pub FieldsDifferAt : List (ℕ × ℕ) → ℕ → Option Block → Option Block → Type 0
FieldsDifferAt pairs i (Some a) (Some b) = (a.header ≡ b.header) × (first_difference (field_words_correspond a.header pairs) 0 a.fields b.fields ≡ Some i)
FieldsDifferAt pairs i a b = ⊥

-- the refusal names the first failing condition on the addresses of pairs
abbrev pub PlaceFails : Image → Image → List (ℕ × ℕ) → Refusal → Type 0
PlaceFails old new pairs (OldNotStart k) = PairAt pairs k (λ before p. ArePlaced old new before × (is_start old.words p.0 ≡ false))
PlaceFails old new pairs (NewNotStart k) = PairAt pairs k (λ before p. ArePlaced old new before × IsTrue (is_start old.words p.0) × (is_start new.words p.1 ≡ false))
PlaceFails old new pairs (NotRising k) = PairAt pairs k (λ before p. ArePlaced old new before × IsTrue (is_start old.words p.0) × IsTrue (is_start new.words p.1)
    × (All (λ q. q.1 < p.1) before → ⊥))
PlaceFails old new pairs (Twice k) = PairAt pairs k (λ before p. ArePlaced old new before × IsTrue (is_start old.words p.0) × IsTrue (is_start new.words p.1)
    × All (λ q. q.1 < p.1) before × (All (λ q. q.0 ≢ p.0) before → ⊥))
PlaceFails old new pairs refusal = ⊥

-- the refusal names the first failing condition on the objects of pairs
abbrev pub ObjectFails : Image → Image → List (ℕ × ℕ) → Refusal → Type 0
ObjectFails old new pairs (HeaderDiffers k) = PairAt pairs k (λ before p. ObjectsMatch old new pairs before × HeadersDiffer (block_at old.words p.0) (block_at new.words p.1))
ObjectFails old new pairs (FieldDiffers k i) = PairAt pairs k (λ before p. ObjectsMatch old new pairs before × FieldsDifferAt pairs i (block_at old.words p.0) (block_at new.words p.1))
ObjectFails old new pairs refusal = ⊥

-- the refusal's condition fails at its place, and all conditions before it hold
abbrev pub IsFirstFault : Image → Image → List (ℕ × ℕ) → Refusal → Type 0
IsFirstFault old new pairs (OldShape at) = shape_fault old ≡ Some at
IsFirstFault old new pairs (NewShape at) = IsShaped old × (shape_fault new ≡ Some at)
IsFirstFault old new pairs RootCount = IsShaped old × IsShaped new × (length old.roots ≢ length new.roots)
IsFirstFault old new pairs (RootDiffers slot) = AreComparable old new × ArePlaced old new pairs × ObjectsMatch old new pairs pairs
    × (first_difference (words_correspond pairs) 0 old.roots new.roots ≡ Some slot)
IsFirstFault old new pairs (HeaderDiffers k) = AreComparable old new × ArePlaced old new pairs × ObjectFails old new pairs (HeaderDiffers k)
IsFirstFault old new pairs (FieldDiffers k i) = AreComparable old new × ArePlaced old new pairs × ObjectFails old new pairs (FieldDiffers k i)
IsFirstFault old new pairs (OldNotStart k) = AreComparable old new × PlaceFails old new pairs (OldNotStart k)
IsFirstFault old new pairs (NewNotStart k) = AreComparable old new × PlaceFails old new pairs (NewNotStart k)
IsFirstFault old new pairs (NotRising k) = AreComparable old new × PlaceFails old new pairs (NotRising k)
IsFirstFault old new pairs (Twice k) = AreComparable old new × PlaceFails old new pairs (Twice k)
