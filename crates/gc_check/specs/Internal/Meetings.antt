-- The pairs that a walk over two images from their roots finds: words that stand at the same place are met, and two
-- references that meet are a pair, unless one of them has a partner.
use Rattle.std.specs.Prelude.{◌≡◌, ℕ, suc, ◌<◌, ◌≤◌, ◌==◌, Bool, true, false, not, vec_capacity, ◌&&◌, if◌then◌else◌, List, [], ◌∷◌, ◌++◌, length, map, Option, Some, None, IsTrue, ⊤}
use Rattle.std.specs.List.{All, AllZip, list_any, count_by}
use Rattle.gc_graph.specs.Graph.{Value, Nil, Num, Ref}
use Rattle.gc_words.specs.Word.{read_value, words_correspond}
use Rattle.gc_words.specs.Image.{Image, Block, is_start, block_at}
use Rattle.gc_words.specs.Certificate.{BlocksCorrespond}
use Rattle.gc_words.specs.Fault.{same_header}
use Rattle.gc_check.specs.Infer.{AreForced, AreTogether}
use Rattle.gc_check.specs.Internal.Starts.{starts_from}
use Rattle.gc_check.specs.Internal.Tables.{HasEntries, HoldsPartners, by_address}
use Rattle.gc_check.specs.Pairs.{pair_at}
use Rattle.gc_check.specs.Verdict.{pairs_of}
use Rattle.gc_check.specs.declared.meet.Found.{Found}

-- ---- what a meeting adds

-- objects start at both addresses, and neither has a partner
abbrev pub is_free : Image → Image → List (ℕ × ℕ) → ℕ → ℕ → Bool
is_free old new pairs a b = is_start old.words a && is_start new.words b && not (list_any (λ q. q.0 == a) pairs) && not (list_any (λ q. q.1 == b) pairs)

abbrev pub met_refs : Image → Image → List (ℕ × ℕ) → ℕ → ℕ → List (ℕ × ℕ)
met_refs old new pairs a b = if is_free old new pairs a b then pairs ++ (a, b) ∷ [] else pairs

abbrev pub met_with : Image → Image → List (ℕ × ℕ) → ℕ → Option Value → List (ℕ × ℕ)
met_with old new pairs a None = pairs
met_with old new pairs a (Some Nil) = pairs
met_with old new pairs a (Some (Num n)) = pairs
met_with old new pairs a (Some (Ref b)) = met_refs old new pairs a b

abbrev pub met_values : Image → Image → List (ℕ × ℕ) → Option Value → Option Value → List (ℕ × ℕ)
met_values old new pairs None w = pairs
met_values old new pairs (Some Nil) w = pairs
met_values old new pairs (Some (Num n)) w = pairs
met_values old new pairs (Some (Ref a)) w = met_with old new pairs a w

-- the pairs after two words have met
abbrev pub met : Image → Image → List (ℕ × ℕ) → ℕ → ℕ → List (ℕ × ℕ)
met old new pairs v w = met_values old new pairs (read_value v) (read_value w)

-- the pairs after two lists of words have met, word by word
abbrev pub met_all : Image → Image → List (ℕ × ℕ) → List ℕ → List ℕ → List (ℕ × ℕ)
met_all old new pairs [] ws = pairs
met_all old new pairs (v ∷ vs) [] = pairs
met_all old new pairs (v ∷ vs) (w ∷ ws) = met_all old new (met old new pairs v w) vs ws

abbrev pub met_blocks : Image → Image → List (ℕ × ℕ) → Option Block → Option Block → List (ℕ × ℕ)
met_blocks old new pairs (Some a) (Some b) = if same_header a.header b.header && not a.header.raw then met_all old new pairs a.fields b.fields else pairs
met_blocks old new pairs a b = pairs

-- the pairs after the fields of the objects of a pair have met, if the headers are equal and the objects are not raw
abbrev pub met_objects : Image → Image → List (ℕ × ℕ) → ℕ × ℕ → List (ℕ × ℕ)
met_objects old new pairs p = met_blocks old new pairs (block_at old.words p.0) (block_at new.words p.1)

-- ---- what holds of the pairs

-- if both words refer to starts, one of these has a partner
abbrev pub HaveMet : Image → Image → List (ℕ × ℕ) → ℕ → ℕ → Type 0
HaveMet old new pairs v w = (a b : ℕ) → read_value v ≡ Some (Ref a) → read_value w ≡ Some (Ref b) → is_free old new pairs a b ≡ false

-- the same for the words at each place that both lists have
abbrev pub AllMet : Image → Image → List (ℕ × ℕ) → List ℕ → List ℕ → Type 0
AllMet old new pairs [] ws = ⊤
AllMet old new pairs (v ∷ vs) [] = ⊤
AllMet old new pairs (v ∷ vs) (w ∷ ws) = HaveMet old new pairs v w × AllMet old new pairs vs ws

abbrev pub BlocksMet : Image → Image → List (ℕ × ℕ) → Option Block → Option Block → Type 0
BlocksMet old new pairs (Some a) (Some b) = a.header ≡ b.header → a.header.raw ≡ false → AllMet old new pairs a.fields b.fields
BlocksMet old new pairs a b = ⊤

-- the fields of the objects of this pair have met
abbrev pub ObjectsMet : Image → Image → List (ℕ × ℕ) → ℕ × ℕ → Type 0
ObjectsMet old new pairs p = BlocksMet old new pairs (block_at old.words p.0) (block_at new.words p.1)

-- each pair joins two starts, is forced, and some path finds both; the roots have met, and the objects of the first `done` pairs
pub record MetTo (old new : Image) (pairs : List (ℕ × ℕ)) (done : ℕ) : Type 0 where
  pub starts : All (λ p. IsTrue (is_start old.words p.0) × IsTrue (is_start new.words p.1)) pairs
  pub forced : AreForced old new pairs
  pub together : AreTogether old new pairs
  pub roots : AllMet old new pairs old.roots new.roots
  pub objects : (k : ℕ) → k < done → k < length pairs → ObjectsMet old new pairs (pair_at pairs k)

-- ---- words that correspond

-- whether the words at each place of two lists correspond once they have met
abbrev pub alike_all : Image → Image → List (ℕ × ℕ) → List ℕ → List ℕ → Bool
alike_all old new pairs [] [] = true
alike_all old new pairs [] (w ∷ ws) = false
alike_all old new pairs (v ∷ vs) [] = false
alike_all old new pairs (v ∷ vs) (w ∷ ws) = words_correspond (met old new pairs v w) v w && alike_all old new (met old new pairs v w) vs ws

-- the roots correspond, and so do the objects of the first `done` pairs
pub record AlikeTo (old new : Image) (pairs : List (ℕ × ℕ)) (done : ℕ) : Type 0 where
  pub roots : AllZip (λ v w. IsTrue (words_correspond pairs v w)) old.roots new.roots
  pub objects : (k : ℕ) → k < done → k < length pairs → BlocksCorrespond pairs (block_at old.words (pair_at pairs k).0) (block_at new.words (pair_at pairs k).1)

-- ---- tables

abbrev pub swapped : List (ℕ × ℕ) → List (ℕ × ℕ)
swapped pairs = map (λ p. (p.1, p.0)) pairs

-- the number of entries that are not 0
abbrev pub taken_in : List ℕ → ℕ
taken_in row = count_by (λ entry. not (entry == 0)) row

-- the partners of old and of new addresses, by address
abbrev pub partners_in : Image → Found → List ℕ
partners_in old found = by_address old.words found.partners

abbrev pub originals_in : Image → Found → List ℕ
originals_in new found = by_address new.words found.originals

-- the tables hold the partners of the pairs found, in both directions
pub record HoldsFound (old new : Image) (found : Found) : Type 0 where
  pub old_entries : HasEntries old.words found.partners
  pub new_entries : HasEntries new.words found.originals
  pub partners : HoldsPartners (partners_in old found) (pairs_of found.pairs.items)
  pub originals : HoldsPartners (originals_in new found) (swapped (pairs_of found.pairs.items))
  -- there are as many pairs as entries in each direction, and room for a pair of each old object
  pub count : length found.pairs.items ≡ taken_in (partners_in old found)
  pub new_count : length found.pairs.items ≡ taken_in (originals_in new found)
  pub room : starts_from old.words 0 (length old.words) ≤ vec_capacity found.pairs

-- a pair for each entry that is not 0, with its address; the entries are those from address `at` on
abbrev pub risen : ℕ → List ℕ → List (ℕ × ℕ)
risen at [] = []
risen at (original ∷ rest) = if original == 0 then risen (suc at) rest else (original, at) ∷ risen (suc at) rest
