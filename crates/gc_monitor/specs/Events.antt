-- What the events do to the tables of a standing checker that is not lost.
use Rattle.std.specs.Prelude.{◌≡◌, ◌⊎◌, ◌≢◌, ◌≤◌, ◌<◌, ◌+◌, ℕ, zero, suc, Some, Bool, true, false, not, if◌then◌else◌, List, [], ◌∷◌, ◌++◌, length, take, drop, replicate, slice_index, slice_index_or, slice_set}
use Rattle.gc_graph.specs.Limits.{largest_space}
use Rattle.gc_words.specs.Word.{read_header, field_words_correspond}
use Rattle.gc_words.specs.Layout.{field_place, fields_place, link_place}
use Rattle.gc_words.specs.declared.header.Header.{Header}
use Rattle.gc_monitor.specs.Watch.{IsNext}
use Rattle.gc_monitor.specs.Origins.{pairs_in}
use Rattle.gc_monitor.specs.Tables.{Tables, missing_in}

abbrev pub code_of : Bool → ℕ
code_of due = if due then 3 else 0

-- the codes of an object's words: its start, its link, its fields
abbrev pub object_codes : ℕ → ℕ → List ℕ
object_codes len code = 1 ∷ 0 ∷ replicate len code

-- with these codes of new places, counted
abbrev pub with_news : Tables → List ℕ → Tables
with_news t codes = record t { news = codes; missing = missing_in codes }

-- with this place due or not
abbrev pub with_due : Tables → ℕ → Bool → Tables
with_due t place due = with_news t (slice_set t.news place (code_of due))

-- ---- an old object more

abbrev pub old_added : Tables → Header → Tables
old_added t h = record t { olds = t.olds ++ object_codes h.len 0 }

-- the walk over the old space has gone on by one object, if there was one
pub record Made (old : List ℕ) (t after : Tables) : Type 0 where
  pub at_end : length old ≤ length t.olds → after ≡ t
  pub more : length t.olds < length old → (h : Header) × IsNext (length t.olds) old h × (after ≡ old_added t h)

-- the same for an object with this header word
abbrev pub Saw : ℕ → Tables → Tables → Type 0
Saw word t after = (h : Header) × (read_header word ≡ Some h) × (length t.olds + (h.len + 2) ≤ largest_space) × (after ≡ old_added t h)

-- the walk stands at this place: the space ends there, or the word that was read there says that the objects do
abbrev pub StandsThere : {R S : Type 0} → (R → ℕ) → (R → ℕ → Type 0) → (R → S → ℕ → ℕ → S → Type 0) → R → S → ℕ → S → Type 0
StandsThere count ends reads old s at s' = ((count old ≤ at) × (s' ≡ s)) ⊎ ((word : ℕ) × (at < count old) × reads old s at word s' × ends old word)

-- ---- a replica more

-- the next new object claims this original: an object that was seen, and has no replica yet, with the same header
pub record IsClaim (old new : List ℕ) (t : Tables) (h : Header) (a : ℕ) : Type 0 where
  pub next : IsNext (length t.news) new h
  pub rows : length t.origins ≡ length t.news
  pub link : slice_index new (link_place (length t.news)) ≡ a
  pub low : 1 ≤ a
  pub within : a < length old
  pub start : slice_index_or t.olds a 0 ≡ 1
  pub header : slice_index old a ≡ slice_index new (length t.news)

-- a raw object whose field words are those of its original
pub record IsCopy (old new : List ℕ) (h : Header) (a b : ℕ) : Type 0 where
  pub raw : h.raw ≡ true
  pub fields : take h.len (drop (fields_place a) old) ≡ take h.len (drop (fields_place b) new)

abbrev pub replica_added : Tables → Header → ℕ → Bool → Tables
replica_added t h a due = record (with_news t (t.news ++ object_codes h.len (code_of due))) {
  olds = slice_set t.olds a 2;
  origins = t.origins ++ a ∷ 0 ∷ replicate h.len 0;
}

-- the walk over the new space has gone on by one replica, if there was one; its fields are due, unless they were copied whole
pub record Placed (old new : List ℕ) (t after : Tables) : Type 0 where
  pub at_end : length new ≤ length t.news → after ≡ t
  pub more : length t.news < length new → (h : Header) × (a : ℕ) × IsClaim old new t h a
      × ((after ≡ replica_added t h a true) ⊎ (IsCopy old new h a (length t.news) × (after ≡ replica_added t h a false)))

-- The same for a replica with this header word, of an object at a that was seen and has no replica yet. Its fields are due, also if it is raw.
pub record PlacedBy (word a : ℕ) (t after : Tables) : Type 0 where
  pub header : Header
  pub is : read_header word ≡ Some header
  pub rows : length t.origins ≡ length t.news
  pub low : 1 ≤ a
  pub start : slice_index_or t.olds a 0 ≡ 1
  pub bound : length t.news + (header.len + 2) ≤ largest_space
  pub added : after ≡ replica_added t header a true

-- ---- a field compared, or written

-- field i of an object with this header at place b of the new space, which is a replica of the object at a
pub record IsFieldOf (new : List ℕ) (t : Tables) (h : Header) (a b i : ℕ) : Type 0 where
  pub header : read_header (slice_index new b) ≡ Some h
  pub has_field : i < h.len
  pub origin : slice_index_or t.origins b 0 ≡ a
  pub low : 1 ≤ a
  pub within : field_place b i < length t.news

-- field i of the replica at b was compared as it is now
abbrev pub Looked : List ℕ → List ℕ → ℕ → ℕ → Tables → Tables → Type 0
Looked old new b i t after = (h : Header) × (a : ℕ) × IsFieldOf new t h a b i × (field_place a i < length old) × (field_place b i < length new)
    × (after ≡ with_due t (field_place b i) (not (field_words_correspond h (pairs_in t.origins) (slice_index old (field_place a i)) (slice_index new (field_place b i)))))

-- the object at a has its replica at b
pub record IsReplicaAt (t : Tables) (a b : ℕ) : Type 0 where
  pub low : 1 ≤ a
  pub taken : slice_index_or t.olds a 0 ≡ 2
  pub origin : slice_index_or t.origins b 0 ≡ a

-- no replica of the object at a was seen
abbrev pub HasNoReplica : Tables → ℕ → Type 0
HasNoReplica t a = (b : ℕ) → 1 ≤ slice_index_or t.origins b 0 → slice_index_or t.origins b 0 ≢ a

-- field i of the object at a is due in its replica, if it has one
abbrev pub Wrote : ℕ → ℕ → Tables → Tables → Type 0
Wrote a i t after = (HasNoReplica t a × (after ≡ t))
    ⊎ ((b : ℕ) × IsReplicaAt t a b × (field_place b i < length t.news) × (after ≡ with_due t (field_place b i) true))

-- so many fields of the object at a, from field i on, are due in its replica, one after the other
abbrev pub WroteRow : ℕ → ℕ → ℕ → Tables → Tables → Type 0
WroteRow a i zero t after = t ≡ after
WroteRow a i (suc n) t after = (next : Tables) × Wrote a i t next × WroteRow a (suc i) n next after

-- field i of the replica of the object at a was compared, if it has one
abbrev pub Applied : List ℕ → List ℕ → ℕ → ℕ → Tables → Tables → Type 0
Applied old new a i t after = (HasNoReplica t a × (after ≡ t))
    ⊎ ((b : ℕ) × IsReplicaAt t a b × Looked old new b i t after)

-- ---- the ends of a collection

abbrev pub opening_tables : ℕ → Tables
opening_tables room = record { olds = 0 ∷ []; news = 0 ∷ []; origins = 0 ∷ []; missing = 0; room = room; lost = false }

-- of a checker without room, which is lost
abbrev pub absent_tables : Tables
absent_tables = record { olds = []; news = []; origins = []; missing = 0; room = 0; lost = true }

-- the new row is the old one, and the next new space is empty
abbrev pub flipped_tables : Tables → Tables
flipped_tables t = record t { olds = t.news; news = 0 ∷ []; origins = 0 ∷ []; missing = 0 }

-- the new space is empty, and its originals have no replicas
pub record Freed (t after : Tables) : Type 0 where
  pub rest : after ≡ record t { olds = after.olds; news = 0 ∷ []; origins = 0 ∷ []; missing = 0 }
  pub count : length after.olds ≡ length t.olds
  pub codes : (a : ℕ) → (slice_index_or after.olds a 0 ≡ slice_index_or t.olds a 0) ⊎ ((slice_index_or t.olds a 0 ≡ 2) × (slice_index_or after.olds a 0 ≡ 1))
  pub freed : (b : ℕ) → 1 ≤ slice_index_or t.origins b 0 → slice_index_or after.olds (slice_index_or t.origins b 0) 0 ≡ 1
