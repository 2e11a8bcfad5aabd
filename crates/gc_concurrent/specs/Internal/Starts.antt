-- A row of marks that says where objects start.
use Rattle.std.specs.Prelude.{◌≡◌, ℕ, List}
use Rattle.gc_words.specs.Image.{is_start}
use Rattle.gc_words.specs.Marks.{is_marked}

-- A place is marked exactly if an object starts there.
abbrev pub TellsStarts : List ℕ → List ℕ → Type 0
TellsStarts row words = (place : ℕ) → is_marked row place ≡ is_start words place
