-- The two lines of a heading.
use Rattle.std.specs.Prelude.{ℕ, ◌≤◌, List, [], ◌∷◌, codes}
use Rattle.std.specs.Fmt.{decimal}
use Rattle.gc_graph.specs.Limits.{most_words, most_mutators}
use Rattle.gc_text.specs.Lines.{joined}
use Rattle.gc_trace.specs.Grammar.{newest}

abbrev pub IsVersion : ℕ → Type 0
IsVersion version = (1 ≤ version) × (version ≤ newest)

abbrev pub first_line : ℕ → List ℕ
first_line version = joined (codes "heaptrace" ∷ decimal version ∷ [])

-- the size of the space, and the number of mutators
abbrev pub AreWorldSizes : ℕ × ℕ → Type 0
AreWorldSizes sizes = (1 ≤ sizes.0) × (sizes.0 ≤ most_words) × (1 ≤ sizes.1) × (sizes.1 ≤ most_mutators)

abbrev pub second_line : ℕ × ℕ → List ℕ
second_line sizes = joined (codes "space" ∷ decimal sizes.0 ∷ codes "mutators" ∷ decimal sizes.1 ∷ [])
