-- What has to be true of what a checker is told, so that it does not become lost.
use Rattle.std.specs.Prelude.{◌≡◌, ◌≤◌, ◌<◌, ◌+◌, ◌%◌, ◌^◌, ℕ, IsFalse, Some, false, List, length, slice_index, slice_index_or}
use Rattle.gc_words.specs.Word.{read_header}
use Rattle.gc_graph.specs.Limits.{largest_space}
use Rattle.gc_words.specs.Layout.{field_place, fields_place, link_place}
use Rattle.gc_words.specs.declared.header.Header.{Header}
use Rattle.gc_monitor.specs.Outline.{ImageOutline}
use Rattle.gc_monitor.specs.Watch.{IsNext, IsSized, RootsCorrespond}
use Rattle.gc_monitor.specs.Origins.{pairs_in}
use Rattle.gc_monitor.specs.Tables.{Tables}
use Rattle.gc_monitor.specs.Events.{IsClaim, IsCopy, IsFieldOf, replica_added}

-- if the old space has an object more, there is room for it
abbrev pub CanMake : List ℕ → Tables → Type 0
CanMake old t = length t.olds < length old → (h : Header) × IsNext (length t.olds) old h × (length t.olds + (h.len + 2) ≤ t.room)

-- if the new space has an object more, its claim is true, and there is room for it
abbrev pub CanPlaceNext : List ℕ → List ℕ → Tables → Type 0
CanPlaceNext old new t = length t.news < length new
    → (h : Header) × (a : ℕ) × IsClaim old new t h a × (a < largest_space) × (length t.news + (h.len + 2) ≤ t.room)

-- a raw object that is a copy of its original owes nothing
abbrev pub OwesNone : List ℕ → List ℕ → Tables → Tables → Type 0
OwesNone old new t after = (h : Header) (a : ℕ) → IsClaim old new t h a → IsCopy old new h a (length t.news)
    → fields_place a + h.len ≤ length old → after ≡ replica_added t h a false

-- both spaces have field i of the replica at b and of its original
abbrev pub CanLook : List ℕ → List ℕ → ℕ → ℕ → Tables → Type 0
CanLook old new b i t = (h : Header) × (a : ℕ) × IsFieldOf new t h a b i × (field_place a i < length old) × (field_place b i < length new)

-- A replica starts at b. An object with this header word has field i, and the walk over the new space has passed it.
pub record IsPassedField (word : ℕ) (t : Tables) (b i : ℕ) : Type 0 where
  pub header : Header
  pub is : read_header word ≡ Some header
  pub has_field : i < header.len
  pub origin : 1 ≤ slice_index_or t.origins b 0
  pub within : field_place b i < length t.news

-- the low 32 bits of the link of the object at a lead to its replica at b
pub record IsLinked (old : List ℕ) (t : Tables) (a b : ℕ) : Type 0 where
  pub low : 1 ≤ a
  pub within : link_place a < length old
  pub link : slice_index old (link_place a) % 2 ^ 32 ≡ b
  pub high : b < largest_space
  pub origin : slice_index_or t.origins b 0 ≡ a

-- if the object at a has a replica, its link leads there, and both have field i
abbrev pub CanApply : List ℕ → List ℕ → ℕ → ℕ → Tables → Type 0
CanApply old new a i t = slice_index_or t.olds a 0 ≡ 2 → (b : ℕ) × IsLinked old t a b × CanLook old new b i t

-- if the object at a has a replica, its link leads there, and field i of the replica was seen
abbrev pub CanWrite : List ℕ → ℕ → ℕ → Tables → Type 0
CanWrite old a i t = slice_index_or t.olds a 0 ≡ 2 → (b : ℕ) × IsLinked old t a b × (field_place b i < length t.news)

-- the same of so many fields from field i on
abbrev pub CanWriteRow : List ℕ → ℕ → ℕ → ℕ → Tables → Type 0
CanWriteRow old a i n t = 1 ≤ n → slice_index_or t.olds a 0 ≡ 2 → (b : ℕ) × IsLinked old t a b × (field_place b i + n ≤ length t.news)

-- nothing is lost or due, and as many words were seen as both images have
pub record HasSeenBoth (t : Tables) (old new : ImageOutline) : Type 0 where
  pub found : IsFalse t.lost
  pub none_due : t.missing ≡ 0
  pub old_seen : length t.olds ≡ old.count
  pub new_seen : length t.news ≡ new.count
  pub old_sized : IsSized old
  pub new_sized : IsSized new

-- all is seen, and the roots correspond
pub record Accepts (t : Tables) (old new : ImageOutline) : Type 0 where
  pub seen : HasSeenBoth t old new
  pub roots : RootsCorrespond (pairs_in t.origins) old.roots new.roots

-- ---- words that come one by one

-- an object with this header word would fit behind the walk over the old space, which has so many places
abbrev pub CanSee : ℕ → ℕ → Tables → Type 0
CanSee word count t = (h : Header) × (read_header word ≡ Some h) × (length t.olds + (h.len + 2) ≤ t.room) × (length t.olds + (h.len + 2) ≤ count)

-- a replica with this header word would fit behind the walk over the new space
abbrev pub FitsBehind : ℕ → Tables → Type 0
FitsBehind word t = (h : Header) × (read_header word ≡ Some h) × (length t.news + (h.len + 2) ≤ t.room)

-- the object at a was seen, and has no replica yet
abbrev pub IsUntaken : ℕ → Tables → Type 0
IsUntaken a t = (1 ≤ a) × (slice_index_or t.olds a 0 ≡ 1)

-- if the object at a has a replica, it is the one at b, whose field i was seen
abbrev pub CanWriteAt : ℕ → ℕ → ℕ → Tables → Type 0
CanWriteAt a i b t = slice_index_or t.olds a 0 ≡ 2 → (1 ≤ a) × (slice_index_or t.origins b 0 ≡ a) × (field_place b i < length t.news)

-- Both spaces have field i of the replica at b and of its original. The replica has this header word, and these are the words of the fields.
pub record ShowsField (old new : List ℕ) (t : Tables) (b i word v u : ℕ) : Type 0 where
  pub header : slice_index new b ≡ word
  pub old_within : field_place (slice_index_or t.origins b 0) i < length old
  pub old_word : slice_index old (field_place (slice_index_or t.origins b 0) i) ≡ v
  pub new_within : field_place b i < length new
  pub new_word : slice_index new (field_place b i) ≡ u
