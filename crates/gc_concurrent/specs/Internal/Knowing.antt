-- A standing checker that is never lost: what its tables know of the collection.
use Rattle.std.specs.Prelude.{◌≡◌, ◌≢◌, ◌⊎◌, ◌≤◌, ◌<◌, ◌+◌, ◌==◌, ℕ, Bool, List, Some, length, slice_index, slice_index_or, slice_set, IsTrue, IsFalse, if◌then◌else◌}
use Rattle.gc_words.specs.Word.{read_header, words_correspond}
use Rattle.gc_words.specs.Layout.{field_place}
use Rattle.gc_words.specs.Image.{is_start}
use Rattle.gc_model.specs.State.{Replica, pairs_of}
use Rattle.gc_model.specs.Members.{In}
use Rattle.gc_model.specs.Belonging.{IsDue}
use Rattle.gc_monitor.specs.Origins.{pairs_in}
use Rattle.gc_monitor.specs.Tables.{Tables, watch_of}
use Rattle.gc_monitor.specs.Telling.{IsMark}
use Rattle.gc_monitor.specs.Watch.{is_due_at}
use Rattle.gc_monitor.specs.Events.{Looked, PlacedBy}
use Rattle.gc_concurrent.specs.Ends.{Theirs, its}

-- field words of objects that are raw, or of others, correspond
abbrev pub alike : Bool → List (ℕ × ℕ) → ℕ → ℕ → Bool
alike raw pairs v w = if raw then v == w else words_correspond pairs v w

-- The checker has seen this field of the replica's original, and it differs from the replica's.
pub record IsSeenToDiffer (seen new : List ℕ) (t : Theirs) (r : Replica) (i : ℕ) : Type 0 where
  pub within : field_place r.original i < length seen
  pub differs : IsFalse (alike r.object.raw (pairs_of (its t)) (slice_index seen (field_place r.original i)) (slice_index new (field_place r.place i)))

-- This place is a field of a replica, which the collector has yet to bring up to date, or which was seen to differ.
pub record IsLeft (seen new : List ℕ) (t : Theirs) (place : ℕ) : Type 0 where
  pub replica : Replica
  pub there : In replica t.replicas
  pub field : ℕ
  pub has_field : field < length replica.object.fields
  pub at : place ≡ field_place replica.place field
  pub why : IsDue (its t) replica.object.raw replica.place replica.original field ⊎ IsSeenToDiffer seen new t replica field

-- The checker is not lost. Its pairs are the originals and their replicas, and it has marked the objects of both spaces as far as it has seen them.
-- Only what is left is due for it. There is room for both spaces.
pub record Knows (t : Tables) (seen new : List ℕ) (theirs : Theirs) : Type 0 where
  pub found : IsFalse t.lost
  pub pairs : pairs_in t.origins ≡ pairs_of (its theirs)
  pub taken : (a : ℕ) → slice_index_or t.olds a 0 ≡ 2 → (r : Replica) × In r theirs.replicas × (r.original ≡ a)
  pub olds : (a : ℕ) → IsTrue (is_start seen a) → a < length t.olds → IsMark (slice_index_or t.olds a 0)
  pub news : (b : ℕ) → IsTrue (is_start new b) → slice_index_or t.news b 0 ≡ 1
  pub free : (b : ℕ) → slice_index_or t.news b 0 ≢ 2
  pub due : (place : ℕ) → IsTrue (is_due_at (watch_of t) place) → IsLeft seen new theirs place
  pub old_room : theirs.old ≤ t.room
  pub new_room : theirs.size ≤ t.room

-- the same replica, whatever its fields hold
pub record IsSameReplica (r s : Replica) : Type 0 where
  pub original : s.original ≡ r.original
  pub place : s.place ≡ r.place
  pub raw : s.object.raw ≡ r.object.raw
  pub len : length s.object.fields ≡ length r.object.fields

-- The replicas stay where they are, and what the collector has yet to bring up to date stays so, but for these places.
pub record Brings (Brought : ℕ → Type 0) (t u : Theirs) : Type 0 where
  pub from : u.old ≡ t.old
  pub into : u.size ≡ t.size
  pub pairs : pairs_of (its u) ≡ pairs_of (its t)
  pub replicas : (r : Replica) → In r t.replicas → (s : Replica) × In s u.replicas × IsSameReplica r s
  pub due : (r : Replica) (i : ℕ) → In r t.replicas → i < length r.object.fields → IsDue (its t) r.object.raw r.place r.original i → Brought (field_place r.place i) ⊎ IsDue (its u) r.object.raw r.place r.original i

-- Field i of the replica at b was compared with its original's, as it is seen from now on.
pub record Compared (b i : ℕ) (t after : Tables) (seen after_seen new : List ℕ) : Type 0 where
  pub word : ℕ
  pub sees : after_seen ≡ slice_set seen (field_place (slice_index_or t.origins b 0) i) word
  pub looked : Looked after_seen new b i t after

-- The object at this address, which has this header word, has just got a replica, for which there is room. The tables know the collection without it.
pub record KnowsBefore (t : Tables) (seen new : List ℕ) (before now : Theirs) (name word : ℕ) : Type 0 where
  pub knows : Knows t seen new before
  pub from : now.old ≡ before.old
  pub none : (r : Replica) → In r before.replicas → r.original ≢ name
  pub replica : Replica
  pub there : In replica now.replicas
  pub original : replica.original ≡ name
  pub header : read_header word ≡ Some (record { raw = replica.object.raw; kind = replica.object.kind; len = length replica.object.fields })
  pub room : length new + (length replica.object.fields + 2) ≤ before.size
  pub low : name < before.old
  pub high : before.old ≤ 4294967295

-- The tables went on to that object, which they then took for the original of the next replica.
pub record PlacedBehind (t after : Tables) (seen new : List ℕ) (before : Theirs) (name word : ℕ) : Type 0 where
  pub walked : Tables
  pub knows : Knows walked seen new before
  pub rows : length walked.news ≡ length new
  pub placed : PlacedBy word name walked after
