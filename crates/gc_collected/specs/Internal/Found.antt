-- What a search of the roots found.
use Rattle.std.specs.Prelude.{◌≡◌, ℕ, List, length, Some, None, IsTrue, ⊤}
use Rattle.gc_graph.specs.Graph.{Graph}
use Rattle.gc_words.specs.Image.{is_start}
use Rattle.gc_model.specs.State.{Collection}
use Rattle.gc_model.specs.Staying.{IsMissing}
use Rattle.gc_model.specs.Steps.{root_target}
use Rattle.gc_collected.specs.declared.known.Found.{Found}
use Rattle.gc_collected.specs.declared.known.Found.TheVariants.{Missing, AllKnown, Unfinished}

-- it found the target of the first root without a replica, or that there is none, unless it is unfinished
abbrev pub FindsFirst : Collection → Graph → Found → Type 0
FindsFirst c g (Missing r) = root_target c g ≡ Some r.target.0
FindsFirst c g AllKnown = root_target c g ≡ None
FindsFirst c g Unfinished = ⊤

-- a target that it found begins in these words
abbrev pub IsAtStart : List ℕ → Found → Type 0
IsAtStart words (Missing r) = IsTrue (is_start words r.target.0)
IsAtStart words found = ⊤

-- a root that it found is an extra one, where there are so many slots, and lacks a replica of its target
abbrev pub IsMissingExtra : Collection → Graph → ℕ → Found → Type 0
IsMissingExtra c g slots (Missing r) = IsMissing c g slots (length g.roots) r.place r.target.0
IsMissingExtra c g slots found = ⊤
