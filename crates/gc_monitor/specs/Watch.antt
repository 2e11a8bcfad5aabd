-- What a checker that goes along with a collection has seen of two spaces, and what is known of their words by it.
use Rattle.std.specs.Prelude.{◌≡◌, ◌≢◌, ◌⊎◌, ℕ, ◌<◌, ◌≤◌, ◌+◌, Bool, true, false, List, length, take, slice_index, slice_get, slice_index_or, Option, Some, None, IsTrue}
use Rattle.std.specs.List.{All, AllPairs, AllZip}
use Rattle.gc_graph.specs.Limits.{largest_space}
use Rattle.gc_words.specs.Word.{read_header, words_correspond, field_words_correspond}
use Rattle.gc_words.specs.Image.{Block, block_at}
use Rattle.gc_words.specs.Space.{SpaceWords, IsSpace}
use Rattle.gc_words.specs.Layout.{field_place}
use Rattle.gc_words.specs.declared.header.Header.{Header}
use Rattle.gc_monitor.specs.Outline.{ImageOutline}

-- Pairs in the order in which they were seen, how far the walks over both spaces have come, and by place of the new
-- space, as far as it is walked, which words are due, that is fields of replicas that have yet to be compared.
pub record Watch : Type 0 where
  pub pairs : List (ℕ × ℕ)
  pub old_seen : ℕ
  pub new_seen : ℕ
  pub due : List Bool

abbrev pub is_due_at : Watch → ℕ → Bool
is_due_at w place = slice_index_or w.due place false

-- field i of the replica at place b
abbrev pub is_due : Watch → ℕ → ℕ → Bool
is_due w b i = is_due_at w (field_place b i)

-- ---- what is seen of a space

-- the words up to a place, as a space of their own
abbrev pub front : ℕ → List ℕ → SpaceWords
front n words = record { size = largest_space; words = take n words }

-- a walk has come to this place
pub record IsSeen (n : ℕ) (words : List ℕ) : Type 0 where
  pub within : n ≤ length words
  pub space : IsSpace (front n words)

abbrev pub seen_at : ℕ → List ℕ → ℕ → Option Block
seen_at n words place = block_at (take n words) place

-- ---- what is known of both

-- an original and its replica at place b: equal headers, and each field is due or corresponds
abbrev pub IsWatched : Watch → ℕ → Option Block → Option Block → Type 0
IsWatched w b (Some x) (Some y) = (x.header ≡ y.header) × ((i v u : ℕ) → slice_get x.fields i ≡ Some v → slice_get y.fields i ≡ Some u → IsTrue (is_due w b i) ⊎ IsTrue (field_words_correspond x.header w.pairs v u))
IsWatched w b (Some x) None = ⊥
IsWatched w b None y = ⊥

-- The present words of both spaces are as the watch has seen them. Links are not looked at.
pub record Watches (old new : List ℕ) (w : Watch) : Type 0 where
  pub old_seen : IsSeen w.old_seen old
  pub new_seen : IsSeen w.new_seen new
  pub pairs : All (λ p. IsWatched w p.1 (seen_at w.old_seen old p.0) (seen_at w.new_seen new p.1)) w.pairs
  pub row : length w.due ≡ w.new_seen
  pub rising : AllPairs (λ p q. p.1 < q.1) w.pairs
  pub once : AllPairs (λ p q. p.0 ≢ q.0) w.pairs

-- ---- at the flip

-- the numbers of an image
pub record IsSized (outline : ImageOutline) : Type 0 where
  pub low : 1 ≤ outline.end
  pub high : outline.end ≤ outline.size
  pub size : outline.size ≤ largest_space
  pub count : outline.count ≡ outline.end
  pub raws : outline.raws ≡ true

abbrev pub RootsCorrespond : List (ℕ × ℕ) → List ℕ → List ℕ → Type 0
RootsCorrespond pairs vs ws = AllZip (λ v w. IsTrue (words_correspond pairs v w)) vs ws

-- ---- what happens

-- field i of the replica at place b is due
abbrev pub NewIsDue : Watch → ℕ → ℕ → Type 0
NewIsDue w b i = All (λ p. p.1 ≡ b → IsTrue (is_due w b i)) w.pairs

-- the next object that a walk comes to
pub record IsNext (n : ℕ) (words : List ℕ) (h : Header) : Type 0 where
  pub header : read_header (slice_index words n) ≡ Some h
  pub within : n + (h.len + 2) ≤ length words
  pub bound : n + (h.len + 2) ≤ largest_space
