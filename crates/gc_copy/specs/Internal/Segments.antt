-- The segments of a mutation log: full ones, the oldest first, then empty ones.
use Rattle.std.specs.Prelude.{◌≡◌, ℕ, zero, suc, ◌<◌, ◌≤◌, ◌^◌, ◌⊎◌, List, [], ◌∷◌, ◌++◌, length}
use Rattle.std.specs.Vec.{vec_len, vec_capacity}
use Rattle.std.specs.declared.vec.Vec.{Vec}
use Rattle.gc_copy.specs.declared.log.LogEntry.{LogEntry}

-- a segment is full with so many entries
abbrev pub segment : ℕ
segment = 1024

module _ {Z : Type 0} where
  -- the entries of these segments, in order
  abbrev pub joined : List (Vec LogEntry Z) → List LogEntry
  joined [] = []
  joined (s ∷ segments) = s.items ++ joined segments

  -- the first `full` segments are full, and the others are empty; each has room for so many entries
  abbrev pub AreSegments : ℕ → List (Vec LogEntry Z) → Type 0
  AreSegments zero [] = Unit {0}
  AreSegments zero (s ∷ segments) = (vec_len s ≡ 0) × (vec_capacity s ≡ segment) × AreSegments zero segments
  AreSegments (suc full) [] = ⊥
  AreSegments (suc full) (s ∷ segments) = (vec_len s ≡ segment) × (vec_capacity s ≡ segment) × AreSegments full segments

  -- Full segments, empty ones, and the last segment with entries. The first `gone` entries are removed; fewer than a segment
  -- holds, and all only if none is left.
  pub record IsLog (segments : List (Vec LogEntry Z)) (full : ℕ) (last : Vec LogEntry Z) (gone : ℕ) : Type 0 where
    pub shape : AreSegments full segments
    pub few : length segments ≤ 2 ^ 50
    pub room : ((vec_capacity last ≡ 0) × (length segments ≡ 0)) ⊎ (vec_capacity last ≡ segment)
    pub first : gone < segment
    pub left : 0 < vec_len last → full ≡ 0 → gone < vec_len last
    pub none : vec_len last ≡ 0 → (full ≡ 0) × (gone ≡ 0)
