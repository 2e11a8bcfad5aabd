-- Minor collections. The objects below an address, the base, are old; those from it on are young. A minor collection replaces the
-- young objects, and changes old objects only in their remembered fields.
use Rattle.std.specs.Prelude.{[], ◌≡◌, ◌≢◌, ℕ, ◌<◌, ◌≤◌, ◌==◌, nat_lt, nat_le, Bool, true, false, ◌&&◌, ◌||◌, not, if◌then◌else◌, List, ◌∷◌, ◌++◌, length, map, slice_get, Option, Some, None, unwrap_or, IsOk, IsTrue, IsFalse}
use Rattle.std.specs.Result.{result_unwrap_or}
use Rattle.std.specs.List.{All, AllPairs, AllZip, list_any}
use Rattle.gc_graph.specs.Graph.{Value, Nil, Num, Ref}
use Rattle.gc_graph.specs.Correspond.{paired}
use Rattle.gc_words.specs.Word.{value_of, words_correspond}
use Rattle.gc_words.specs.Image.{Image, Block, walk, blocks, block_in, block_at, header_at, field_at}
use Rattle.gc_words.specs.Space.{IsSpace}
use Rattle.gc_words.specs.Closed.{IsClosed}
use Rattle.gc_words.specs.declared.header.Header.{Header}

-- ---- references to old and to young objects

abbrev pub lies_below : ℕ → Value → Bool
lies_below base Nil = false
lies_below base (Num n) = false
lies_below base (Ref a) = nat_lt a base

abbrev pub lies_above : ℕ → Value → Bool
lies_above base Nil = false
lies_above base (Num n) = false
lies_above base (Ref a) = nat_le base a

-- a reference to an old object, which corresponds to itself alone and is never followed
abbrev pub is_old : ℕ → ℕ → Bool
is_old base w = lies_below base (value_of w)

-- a reference to a young object
abbrev pub is_young : ℕ → ℕ → Bool
is_young base w = lies_above base (value_of w)

-- equal references to old objects correspond; all other words do as in any certificate
abbrev pub words_correspond_above : ℕ → List (ℕ × ℕ) → ℕ → ℕ → Bool
words_correspond_above base pairs v w = (is_old base v && (v == w)) || words_correspond pairs v w

abbrev pub field_words_correspond_above : Header → ℕ → List (ℕ × ℕ) → ℕ → ℕ → Bool
field_words_correspond_above h base pairs v w = if h.raw then v == w else words_correspond_above base pairs v w

-- ---- the certificate of a minor collection

-- the objects in the words that begin at the base
abbrev pub young_blocks : ℕ → List ℕ → List (ℕ × Block)
young_blocks base words = result_unwrap_or (walk true 0 base words) []

abbrev pub BlocksCorrespondAbove : ℕ → List (ℕ × ℕ) → Option Block → Option Block → Type 0
BlocksCorrespondAbove base pairs (Some a) (Some b) = (a.header ≡ b.header) × AllZip (λ v w. IsTrue (field_words_correspond_above a.header base pairs v w)) a.fields b.fields
BlocksCorrespondAbove base pairs (Some a) None = ⊥
BlocksCorrespondAbove base pairs None b = ⊥

-- What a checker can test that sees only the young words before and after, a list of root words before and after, and the pairs.
pub record MinorCertified (base : ℕ) (young survivors old_roots new_roots : List ℕ) (pairs : List (ℕ × ℕ)) : Type 0 where
  pub old_walked : IsOk (walk true 0 base young)
  pub new_walked : IsOk (walk true 0 base survivors)
  pub objects : All (λ p. BlocksCorrespondAbove base pairs (block_in (young_blocks base young) p.0) (block_in (young_blocks base survivors) p.1)) pairs
  pub rising : AllPairs (λ p q. p.1 < q.1) pairs
  pub once : AllPairs (λ p q. p.0 ≢ q.0) pairs
  pub roots : AllZip (λ v w. IsTrue (words_correspond_above base pairs v w)) old_roots new_roots

-- ---- old objects

-- the word of a field, which is named by its object's address and its number; 0 if there is no such field
abbrev pub word_of_field : List ℕ → ℕ × ℕ → ℕ
word_of_field words place = unwrap_or (field_at words place.0 place.1) 0

-- The remembered set is complete: a field of an old object that refers to a young one is in it.
pub record IsComplete (front : List ℕ) (remembered : List (ℕ × ℕ)) : Type 0 where
  pub each : (a i w : ℕ) (b : Block) → block_at front a ≡ Some b → IsFalse b.header.raw → slice_get b.fields i ≡ Some w
      → IsTrue (is_young (length front) w) → IsTrue (paired remembered a i)

-- The old objects are the same but for remembered fields of objects that are not raw.
pub record IsRewritten (front after : List ℕ) (remembered : List (ℕ × ℕ)) : Type 0 where
  pub as_long : length after ≡ length front
  pub headers : (a : ℕ) → header_at after a ≡ header_at front a
  pub beside : (a i : ℕ) → IsFalse (paired remembered a i) → field_at after a i ≡ field_at front a i
  pub raws : (a : ℕ) (b : Block) → block_at front a ≡ Some b → IsTrue b.header.raw → block_at after a ≡ Some b

-- ---- the whole heap

-- old and young words, in a space of this size
abbrev pub whole : ℕ → List ℕ → List ℕ → List ℕ → Image
whole size front young roots = record { size = size; end = length (front ++ young); words = front ++ young; roots = roots; raws = true }

-- each old object with itself
abbrev pub identity : List ℕ → List (ℕ × ℕ)
identity front = map (λ entry. (entry.0, entry.0)) (blocks front)

-- what holds of a heap between two events
pub record IsStanding (size : ℕ) (front young roots : List ℕ) (remembered : List (ℕ × ℕ)) : Type 0 where
  pub shaped : IsSpace (record { size = size; words = front })
  pub walked : IsOk (walk true 0 (length front) young)
  pub fits : length (front ++ young) ≤ size
  pub closed : IsClosed (front ++ young) roots
  pub complete : IsComplete front remembered

-- A minor collection: the young words are replaced by `kept`, and the remembered fields and the roots are rewritten. The
-- certificate has the remembered fields as further roots.
pub record IsMinor (size : ℕ) (front after young survivors roots new_roots : List ℕ) (remembered pairs : List (ℕ × ℕ)) : Type 0 where
  pub certified : MinorCertified (length front) young survivors (map (word_of_field front) remembered ++ roots) (map (word_of_field after) remembered ++ new_roots) pairs
  pub rewritten : IsRewritten front after remembered
  pub shaped : IsSpace (record { size = size; words = after })
  pub fits : length (after ++ survivors) ≤ size

-- every object of the new young words is a replica
abbrev pub AreReplicas : ℕ → List ℕ → List (ℕ × ℕ) → Type 0
AreReplicas base survivors pairs = (b : ℕ) (block : Block) → block_in (young_blocks base survivors) b ≡ Some block → IsTrue (list_any (λ p. p.1 == b) pairs)

-- ---- the write barrier

-- The set after word `w` is written over word `old` in field i of the old object at a. A field that referred to a young object is
-- in it already.
abbrev pub remember : ℕ → ℕ → ℕ → ℕ → ℕ → List (ℕ × ℕ) → List (ℕ × ℕ)
remember base old w a i remembered = if is_young base w && not (is_young base old) then (a, i) ∷ remembered else remembered

-- what is remembered are fields of old objects that are not raw
pub record IsPlainField (front : List ℕ) (place : ℕ × ℕ) : Type 0 where
  pub block : Block
  pub found : block_at front place.0 ≡ Some block
  pub plain : IsFalse block.header.raw
  pub within : place.1 < length block.fields

-- A minor collection, but for its certificate.
pub record IsCandidate (size : ℕ) (front after survivors : List ℕ) (remembered pairs : List (ℕ × ℕ)) : Type 0 where
  pub rewritten : IsRewritten front after remembered
  pub shaped : IsSpace (record { size = size; words = after })
  pub walked : IsOk (walk true 0 (length front) survivors)
  pub fields : All (IsPlainField front) remembered
  pub young : All (λ p. (length front ≤ p.0) × (length front ≤ p.1)) pairs
