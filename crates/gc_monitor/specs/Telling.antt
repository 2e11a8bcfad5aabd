-- What the tables of a standing checker tell of the words of two spaces, whoever wrote them.
use Rattle.std.specs.Prelude.{◌≡◌, ◌⊎◌, ℕ, List, length, take, slice_index_or, IsTrue}
use Rattle.gc_words.specs.Image.{is_start}
use Rattle.gc_monitor.specs.Tables.{Tables, RowsAgree, watch_of}
use Rattle.gc_monitor.specs.Watch.{Watches}

-- the mark of a start in a row
abbrev pub IsMark : ℕ → Type 0
IsMark code = (code ≡ 1) ⊎ (code ≡ 2)

-- an object starts at each mark of a row
abbrev pub MarksAreStarts : List ℕ → List ℕ → Type 0
MarksAreStarts codes words = (a : ℕ) → IsMark (slice_index_or codes a 0) → IsTrue (is_start (take (length codes) words) a)

-- the tables agree, and they tell the truth of the words of both spaces
pub record Tells (old new : List ℕ) (t : Tables) : Type 0 where
  pub agree : RowsAgree t
  pub watches : Watches old new (watch_of t)
  pub old_starts : MarksAreStarts t.olds old
  pub new_starts : MarksAreStarts t.news new
