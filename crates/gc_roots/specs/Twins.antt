-- Twins of the roots: while a collection is open, the word that each extra root takes at the flip.
use Rattle.std.specs.Prelude.{◌≡◌, ◌≢◌, ◌||◌, ℕ, zero, suc, nat_lt, not, Bool, if◌then◌else◌, ◌+◌, ◌-◌, ◌*◌, ◌≤◌, ◌<◌, max, true, false, List, length, slice_index, slice_set, IfSome}
use Rattle.gc_graph.specs.Slots.{roots_of}
use Rattle.gc_graph.specs.Graph.{Nil, root}
use Rattle.gc_words.specs.Marks.{is_marked}
use Rattle.gc_model.specs.State.{Collection, State}
use Rattle.gc_copy.specs.Twins.{IsTwin}
use Rattle.gc_roots.specs.declared.root_twins.LookedAt.{LookedAt}

-- A word for each root; marks of extra roots whose words may be out of date; the extra roots from `front` on were not looked at; those from
-- `used` on are nil; and the words from `stale` on, and from `front` on, are 0.
pub record RootRow : Type 0 where
  pub twins : List ℕ
  pub marks : List ℕ
  pub front : ℕ
  pub used : ℕ
  pub stale : ℕ

-- if a collection is open, this is the twin of the root at this place
abbrev pub KnowsTwin : State → ℕ → ℕ → Type 0
KnowsTwin s p word = IfSome s.collection (λ c. IsTwin c (root s.heap.graph p) word)

-- the word of extra root k
abbrev pub twin_at : State → RootRow → ℕ → ℕ
twin_at s row k = slice_index row.twins (roots_of s.mutators + k)

-- what the row says of the roots of a state
pub record KeepsTwins (row : RootRow) (s : State) : Type 0 where
  pub counted : length row.twins ≡ length s.heap.graph.roots
  pub front_high : roots_of s.mutators + row.front ≤ length row.twins
  pub used_high : roots_of s.mutators + row.used ≤ length row.twins
  pub stale_high : roots_of s.mutators + row.stale ≤ length row.twins
  pub unused : (k : ℕ) → row.used ≤ k → root s.heap.graph (roots_of s.mutators + k) ≡ Nil
  pub clean : (k : ℕ) → row.front ≤ k → row.stale ≤ k → twin_at s row k ≡ 0
  pub right : (k : ℕ) → k < row.front → is_marked row.marks k ≡ false → KnowsTwin s (roots_of s.mutators + k) (twin_at s row k)

-- ---- what happens to a row

-- extra root k was written: it is marked if it was looked at before; and it is in use, unless it became nil
pub record IsWritten (was now : RootRow) (k : ℕ) : Type 0 where
  pub twins : now.twins ≡ was.twins
  pub front : now.front ≡ was.front
  pub stale : now.stale ≡ was.stale
  pub marked : k < was.front → is_marked now.marks k ≡ true
  pub others : (i : ℕ) → i ≢ k → is_marked now.marks i ≡ is_marked was.marks i

-- extra root k was looked at: its twin is this word; it is no more marked, and the front has passed it
pub record IsLooked (was now : RootRow) (slots k word : ℕ) : Type 0 where
  pub twins : now.twins ≡ slice_set was.twins (slots + k) word
  pub front : now.front ≡ max was.front (k + 1)
  pub stale : now.stale ≡ was.stale
  pub none : is_marked now.marks k ≡ false
  pub others : (i : ℕ) → i ≢ k → is_marked now.marks i ≡ is_marked was.marks i

-- no extra root has to be looked at
pub record IsDone (row : RootRow) : Type 0 where
  pub used : row.used ≤ row.front
  pub stale : row.stale ≤ row.front
  pub none : (k : ℕ) → k < row.front → is_marked row.marks k ≡ false

-- a collection begins, or a row is turned round: nothing is looked at
abbrev pub begun : RootRow → RootRow
begun row = record row { front = 0; stale = max row.stale row.front }

-- ---- what a search finds

-- extra root k was not looked at, or it is marked
abbrev pub is_due_root : RootRow → ℕ → Bool
is_due_root row k = not (nat_lt k row.front) || is_marked row.marks k

-- this extra root is the first that has to be looked at
pub record IsNextRoot (row : RootRow) (k : ℕ) : Type 0 where
  pub within : k < max row.used (max row.stale row.front)
  pub low : k ≤ row.front
  pub due : is_due_root row k ≡ true
  pub before : (i : ℕ) → i < k → is_marked row.marks i ≡ false

-- how many of the first extra roots are marked
abbrev pub marks_below : List ℕ → ℕ → ℕ
marks_below marks zero = 0
marks_below marks (suc k) = marks_below marks k + (if is_marked marks k then 1 else 0)

-- How many looks are left, if no extra root is written: at those that were looked at and written since, and at those that may be in use, or
-- whose words may not be 0, and were not looked at.
abbrev pub looks_left : RootRow → ℕ
looks_left row = marks_below row.marks row.front + (max row.used row.stale - row.front)

-- the extra roots from one on and below another were looked at in a row: the front has passed them, and none of them is marked
pub record HasLookedInRow (was now : RootRow) (at : LookedAt) : Type 0 where
  pub from : at.from ≡ was.front
  pub to : at.to ≡ now.front
  pub order : at.from ≤ at.to
  pub stale : now.stale ≡ was.stale
  pub marks : now.marks ≡ was.marks
  pub none : (i : ℕ) → at.from ≤ i → i < at.to → is_marked now.marks i ≡ false

-- after so many looks one look less is left for each, or two less, where a last extra root in use is found to be nil
pub record HasLookedOn (looks was now : ℕ) : Type 0 where
  pub less : now + looks ≤ was
  pub few : was ≤ now + 2 * looks

-- from `was` to `now` looks that are left none was taken away, and at most so many were added
abbrev pub AskForLooks : ℕ → ℕ → ℕ → Type 0
AskForLooks most was now = (was ≤ now) × (now ≤ was + most)

-- the same for a value that extra root k takes: it adds one at most, unless no root from k on was in use
abbrev pub AsksForLook : ℕ → ℕ → ℕ → Type 0
AsksForLook k was now = (was ≤ now) × (now ≤ max (was + 1) (k + 1))

-- the words of the slots are their twins
abbrev pub SlotsAreTwins : RootRow → State → Collection → Type 0
SlotsAreTwins row s c = (p : ℕ) → p < roots_of s.mutators → IsTwin c (root s.heap.graph p) (slice_index row.twins p)
