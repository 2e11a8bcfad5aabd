-- Rows of twins and of looks, as functions and proofs of this crate name them.
use Rattle.std.specs.Prelude.{◌≡◌, ℕ, ◌<◌, ◌≤◌, false, List}
use Rattle.gc_words.specs.Marks.{is_marked}
use Rattle.gc_roots.specs.Looks.{LookRow}
use Rattle.gc_roots.specs.Twins.{RootRow}

-- after a flip the former root words are the row
abbrev pub turned : RootRow → List ℕ → RootRow
turned row words = record { twins = words; marks = row.marks; front = 0; used = row.used; stale = row.used }

-- it has compared the first `count` extra roots, and none of them has a mark
pub record HasLookedAtAll (row : LookRow) (count : ℕ) : Type 0 where
  pub front : count ≤ row.front
  pub none : (k : ℕ) → k < count → is_marked row.marks k ≡ false
