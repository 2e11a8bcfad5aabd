-- Why an image has no table of starts, and how many starts it has.
use Rattle.std.specs.Prelude.{◌≡◌, ℕ, zero, suc, if◌then◌else◌, List, Option, Some, ⊤}
use Rattle.gc_words.specs.Image.{is_start}
use Rattle.gc_check.specs.declared.starts.StartsFault.{StartsFault}
use Rattle.gc_check.specs.declared.starts.StartsFault.TheVariants.{NotShaped, NoMemory}

-- the fault is that of the image's shape, or `NoMemory`, which may replace any result
abbrev pub IsStartsFault : Option ℕ → StartsFault → Type 0
IsStartsFault fault (NotShaped shape) = fault ≡ Some shape.at
IsStartsFault fault NoMemory = ⊤

-- the number of objects that start at the `count` places from `at` on
abbrev pub starts_from : List ℕ → ℕ → ℕ → ℕ
starts_from words at zero = 0
starts_from words at (suc count) = if is_start words at then suc (starts_from words (suc at) count) else starts_from words (suc at) count
