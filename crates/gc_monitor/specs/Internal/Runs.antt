-- Looks at the fields of one replica, in order.
use Rattle.std.specs.Prelude.{◌≡◌, ◌+◌, ℕ, zero, suc, List}
use Rattle.gc_monitor.specs.Tables.{Tables}
use Rattle.gc_monitor.specs.Events.{Looked}

-- n fields of the replica at b were compared, from field i on
abbrev pub LooksTo : List ℕ → List ℕ → ℕ → ℕ → ℕ → Tables → Tables → Type 0
LooksTo old new b i zero t after = after ≡ t
LooksTo old new b i (suc n) t after = (mid : Tables) × LooksTo old new b i n t mid × Looked old new b (i + n) mid after
