-- A standing checker that goes along with the collector.
use Rattle.std.specs.Prelude.{◌≡◌, ℕ, List, [], ◌∷◌, IsFalse, length}
use Rattle.gc_monitor.specs.Tables.{Tables}
use Rattle.gc_monitor.specs.Telling.{Tells}
use Rattle.gc_monitor.specs.Watch.{IsSeen}
use Rattle.gc_monitor.specs.Events.{Wrote}

-- Unless it is lost, its tables tell the truth of the words that it has seen, and of all words of the new space.
abbrev pub Follows : Tables → List ℕ → List ℕ → Type 0
Follows t seen new = IsFalse t.lost → Tells seen new t × IsSeen (length seen) seen × (length t.news ≡ length new)

-- it was told of each of these entries, in order
abbrev pub WroteEach : List (ℕ × ℕ) → Tables → Tables → Type 0
WroteEach [] t after = after ≡ t
WroteEach (e ∷ rest) t after = (mid : Tables) × Wrote e.0 e.1 t mid × WroteEach rest mid after
