-- What runs of events do to the tables of a standing checker that is not lost.
use Rattle.std.specs.Prelude.{◌≡◌, ◌≢◌, ◌⊎◌, ◌≤◌, ◌<◌, ◌+◌, ℕ, zero, suc, true, false, Some, List, length, slice_index}
use Rattle.gc_words.specs.Word.{read_header}
use Rattle.gc_words.specs.declared.header.Header.{Header}
use Rattle.gc_monitor.specs.Tables.{Tables}
use Rattle.gc_monitor.specs.Events.{Placed, Looked}
use Rattle.gc_monitor.specs.Claims.{CanPlaceNext, CanLook, OwesNone}

-- ---- replicas

-- the walk over the new space has gone on n times by one replica, if there was one
abbrev pub PlacedRun : List ℕ → List ℕ → ℕ → Tables → Tables → Type 0
PlacedRun old new zero t after = after ≡ t
PlacedRun old new (suc n) t after = (mid : Tables) × Placed old new t mid × OwesNone old new t mid × PlacedRun old new n mid after

-- the walk over the new space has gone on to its end
abbrev pub PlacedAll : List ℕ → List ℕ → Tables → Tables → Type 0
PlacedAll old new t after = (n : ℕ) × PlacedRun old new n t after × (length new ≤ length after.news)

-- wherever the walk comes, the next claim is true
abbrev pub CanPlaceAll : List ℕ → List ℕ → Tables → Type 0
CanPlaceAll old new t = (n : ℕ) (mid : Tables) → PlacedRun old new n t mid → CanPlaceNext old new mid

-- ---- looks

-- field i of the replica at b comes before field e of the one at p
abbrev pub IsBefore : ℕ → ℕ → ℕ → ℕ → Type 0
IsBefore b i p e = (b < p) ⊎ ((b ≡ p) × (i < e))

-- field i was compared
abbrev pub LooksAt : List ℕ → List ℕ → Header → ℕ → ℕ → Tables → ℕ → ℕ → Tables → Type 0
LooksAt old new h b i t c j after = (h.raw ≡ false) × (c ≡ b) × (j ≡ suc i) × Looked old new b i t after

-- the replica was passed: all its fields are compared, or it is raw
abbrev pub LooksPast : ℕ → Header → ℕ → ℕ → Tables → ℕ → ℕ → Tables → Type 0
LooksPast p h b i t c j after = ((h.raw ≡ true) ⊎ (i ≡ h.len)) × (c ≡ b + (h.len + 2)) × (c ≤ p) × (j ≡ 0) × (after ≡ t)

-- from field i of the replica at b, before field e of the one at p, looks went on to field j of the one at c
abbrev pub LooksOn : List ℕ → List ℕ → ℕ → ℕ → ℕ → ℕ → Tables → ℕ → ℕ → Tables → Type 0
LooksOn old new p e b i t c j after = IsBefore b i p e × ((h : Header) × (read_header (slice_index new b) ≡ Some h)
    × (LooksAt old new h b i t c j after ⊎ LooksPast p h b i t c j after))

-- n times
abbrev pub LookRun : List ℕ → List ℕ → ℕ → ℕ → ℕ → ℕ → ℕ → Tables → ℕ → ℕ → Tables → Type 0
LookRun old new p e zero b i t c j after = (c ≡ b) × (j ≡ i) × (after ≡ t)
LookRun old new p e (suc n) b i t c j after = (d k : ℕ) × (mid : Tables) × LookRun old new p e n b i t d k mid × LooksOn old new p e d k mid c j after

-- the looks went on from field i of the replica at b to field e of the one at p
abbrev pub LookedAll : List ℕ → List ℕ → ℕ → ℕ → ℕ → ℕ → Tables → Tables → Type 0
LookedAll old new b i p e t after = (n : ℕ) × LookRun old new p e n b i t p e after

-- the looks can go on from field i of the replica at b
pub record CanGoOn (old new : List ℕ) (p b i : ℕ) (t : Tables) : Type 0 where
  pub header : Header
  pub is : read_header (slice_index new b) ≡ Some header
  pub within : b < length new
  pub passes : (header.raw ≡ true) ⊎ (i ≡ header.len) → b + (header.len + 2) ≤ p
  pub looks : header.raw ≡ false → i ≢ header.len → CanLook old new b i t

-- wherever the looks come before field e of the replica at p, they can go on, and they come to no place beyond that
abbrev pub CanLookAll : List ℕ → List ℕ → ℕ → ℕ → ℕ → ℕ → Tables → Type 0
CanLookAll old new b i p e t = (n c k : ℕ) (mid : Tables) → LookRun old new p e n b i t c k mid
    → (IsBefore c k p e → CanGoOn old new p c k mid) × ((c ≡ p) → k ≤ e) × (c ≤ p)
