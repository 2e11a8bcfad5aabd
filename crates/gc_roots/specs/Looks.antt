-- What the standing checker knows of the extra roots: which of them it has compared with their twins since they were written.
use Rattle.std.specs.Prelude.{◌≡◌, ◌≢◌, ◌⊎◌, ℕ, max, ◌+◌, ◌<◌, ◌≤◌, true, false, List, slice_index}
use Rattle.gc_words.specs.Word.{words_correspond}
use Rattle.gc_words.specs.Marks.{is_marked}
use Rattle.gc_roots.specs.Twins.{RootRow}
use Rattle.gc_roots.specs.declared.root_twins.LookedAt.{LookedAt}

-- the marks of extra roots that it has to compare again, the extra root from which on it has compared none, and how
-- many extra roots there are
pub record LookRow : Type 0 where
  pub marks : List ℕ
  pub front : ℕ
  pub room : ℕ

-- Of all root words, extra root k being at place `slots + k` of both lists: an extra root that was compared, and has no mark, corresponds.
abbrev pub HasLooked : List (ℕ × ℕ) → ℕ → List ℕ → List ℕ → LookRow → Type 0
HasLooked pairs slots olds news row = (k : ℕ) → k < row.front → is_marked row.marks k ≡ false
    → words_correspond pairs (slice_index olds (slots + k)) (slice_index news (slots + k)) ≡ true

-- extra root k was compared, and its words correspond
pub record IsCompared (was now : LookRow) (k : ℕ) : Type 0 where
  pub front : now.front ≡ max was.front (k + 1)
  pub none : is_marked now.marks k ≡ false
  pub others : (i : ℕ) → i ≢ k → is_marked now.marks i ≡ is_marked was.marks i

-- ---- beside a row of twins

-- an extra root that was compared, and has no mark, is one whose twin is up to date
abbrev pub ComparesKnown : RootRow → LookRow → Type 0
ComparesKnown row looks = (k : ℕ) → k < looks.front → is_marked looks.marks k ≡ false → (k < row.front) × (is_marked row.marks k ≡ false)

-- extra root k was written
pub record IsTold (was now : LookRow) (k : ℕ) : Type 0 where
  pub front : now.front ≡ was.front
  pub marked : k < was.front → is_marked now.marks k ≡ true
  pub others : (i : ℕ) → i ≢ k → is_marked now.marks i ≡ is_marked was.marks i

-- extra root k was looked at: no other one is compared by it
abbrev pub ComparesOnly : LookRow → LookRow → ℕ → Type 0
ComparesOnly was now k = (i : ℕ) → i ≢ k → i < now.front → is_marked now.marks i ≡ false → (i < was.front) × (is_marked was.marks i ≡ false)

-- the same for extra roots in a row
abbrev pub ComparesOnlyAt : LookRow → LookRow → LookedAt → Type 0
ComparesOnlyAt was now at = (i : ℕ) → (i < at.from) ⊎ (at.to ≤ i) → i < now.front → is_marked now.marks i ≡ false → (i < was.front) × (is_marked was.marks i ≡ false)

-- these extra roots were compared, and their words correspond
abbrev pub AreCompared : LookRow → LookedAt → Type 0
AreCompared now at = (k : ℕ) → at.from ≤ k → k < at.to → (k < now.front) × (is_marked now.marks k ≡ false)

-- of all root words and twins, behind so many slots, those of these extra roots correspond
abbrev pub CorrespondAt : List (ℕ × ℕ) → ℕ → List ℕ → List ℕ → LookedAt → Type 0
CorrespondAt pairs slots roots twins at = (k : ℕ) → at.from ≤ k → k < at.to → words_correspond pairs (slice_index roots (slots + k)) (slice_index twins (slots + k)) ≡ true
