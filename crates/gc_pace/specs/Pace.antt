-- The steps that are due at a call of paced work: a function of the heap's counts and of a pace, which remembers counts of the call before.
use Rattle.std.specs.Prelude.{◌≡◌, ◌⊎◌, ℕ, ◌+◌, ◌-◌, ◌*◌, ◌/◌, ◌<◌, ◌≤◌, ◌==◌, ◌&&◌, ◌||◌, nat_lt, nat_le, min, max, if◌then◌else◌, IsTrue, Bool, false, Some, None}
use Rattle.gc_model.specs.State.{State}
use Rattle.gc_model.specs.Steps.{useful_step}
use Rattle.gc_model.specs.Progress.{work_left}
use Rattle.gc_collected.specs.Collected.{Collected}
use Rattle.gc_collected.specs.CollectedHeap.{Allocates}
use Rattle.gc_pace.specs.Beside.{HaveFallen}
use Rattle.gc_pace.specs.Counts.{counts_in}
use Rattle.gc_pace.specs.Work.{IsWork, has_flipped, is_over, no_work, units}
use Rattle.gc_pace.specs.declared.counts.Counts.{Counts}
use Rattle.gc_pace.specs.declared.pace.Pace.{Pace}
use Rattle.gc_pace.specs.declared.work.Looks.TheVariants.{CountUpTo, AreFree}
use Rattle.gc_pace.specs.declared.work.Work.{Work}

-- the factor is in range
abbrev pub IsPace : Pace → Type 0
IsPace pace = (100 ≤ pace.factor) × (pace.factor ≤ 10000)

-- ---- the steps that are due

-- the units of work that so many looks make up, rounded up
abbrev pub units_of : ℕ → ℕ
units_of looks = (looks + 31) / 32

-- No more units of work than these are left until the flip, if no mutator acts: a step for each word in use from the scan pointer on, one
-- for each log entry, the units of the looks that are left, and the flip. An object of n words takes n steps at most: one for its root, n - 2 for its
-- fields, and one behind them.
abbrev pub steps_left : Counts → ℕ
steps_left counts = (counts.end - counts.scan_place) + counts.logged + units_of counts.roots_left + 1

-- what was spent since the call before: the words that were allocated, the entries that were logged, and the units by which the looks rose
abbrev pub spent : Pace → Counts → ℕ
spent pace counts = (counts.end - pace.end) + (counts.logged - pace.logged) + (units_of counts.roots_left - units_of pace.roots)

-- A collection begins where this many words are in use: the factor times what the last flip left, or `least` if that is more. It
-- begins at the latest where half of the room that the flip left is used up.
abbrev pub beginning : Pace → Counts → ℕ
beginning pace counts = min (max pace.least (pace.factor * pace.left / 100)) ((pace.left + counts.size) / 2)

-- The steps for each word, entry and unit spent, where this much room is left. One of them pays for the step that it adds. The others perform the
-- steps that are left before the room is used up.
abbrev pub rate_of : Pace → Counts → ℕ → ℕ
rate_of pace counts room = if pace.rate == 0 then 2 + steps_left counts / room else pace.rate

abbrev pub due_with : Pace → Counts → ℕ → ℕ
due_with pace counts room =
    if room == 0 then steps_left counts
    else if counts.is_open == 0 then (if nat_lt counts.end (beginning pace counts) then 0 else 1)
    else min (steps_left counts) (pace.owed + spent pace counts * rate_of pace counts room)

-- the steps that are due before the program allocates this many words; a call performs fewer than 2^32
abbrev pub steps_due : Pace → Counts → ℕ → ℕ
steps_due pace counts wanted = min (due_with pace counts (counts.free - wanted)) 4294967295

-- While a collection is open, the steps owed are due, and each word, entry and unit spent is paid for by a step more, unless fewer are left.
abbrev pub Pays : Pace → Counts → ℕ → Type 0
Pays pace counts due = 1 ≤ counts.is_open → min (min (pace.owed + spent pace counts) (steps_left counts)) 4294967295 ≤ due

-- ---- what the pace remembers

-- the pace of a heap with these counts, where nothing was allocated yet and no step is owed
abbrev pub pace_from : Pace → Counts → Pace
pace_from pace counts = record pace { left = counts.end; end = counts.end; logged = counts.logged; owed = 0; roots = counts.roots_left }

-- the pace bounds the words of a call, and this one performed as many units, or took twice as many looks, or its replicas took as many words
abbrev pub took_its_words : Pace → Work → Bool
took_its_words pace work = nat_lt 0 pace.words && (nat_le pace.words (units work) || (nat_le (2 * pace.words) work.looks || nat_le pace.words work.copied))

-- The steps that are owed after this work: those of the steps due that it left because it took its words. Each unit of looks counts as a step.
abbrev pub owed_after : Pace → ℕ → Work → ℕ
owed_after pace due work = if is_over work then 0 else if took_its_words pace work then due - units work else 0

-- the pace after this work, for which so many steps were due, and which led to these counts
abbrev pub pace_after : Pace → ℕ → Work → Counts → Pace
pace_after pace due work counts =
    record pace { left = (if has_flipped work then counts.end else pace.left); end = counts.end; logged = counts.logged; owed = owed_after pace due work; roots = counts.roots_left }

-- ---- paced work

-- the counts leave no log entry out
abbrev pub CountsAll : Counts → Type 0
CountsAll counts = counts.logged < 4294967295

-- the last step flipped or found no room, or the next one allocates
abbrev pub HasEnded : State → Work → Type 0
HasEnded t work = IsTrue (is_over work) ⊎ Allocates t (useful_step t)

-- the work that is left until the flip, in units: steps, and looks at extra roots
abbrev pub units_left : Collected → ℕ
units_left heap = work_left heap.core + units_of heap.roots_left

-- A collection was open. Each step that was due was performed, or looks took its place, or it is owed. The call neither flipped nor lacked room, and
-- the counts are exact.
pub record WorkGoesOn (wanted : ℕ) (counts : Counts) (before : Pace) (work : Work) : Type 0 where
  pub collecting : 1 ≤ counts.is_open
  pub counted : CountsAll counts
  pub few : before.owed + spent before counts ≤ 4294967295
  pub performed : steps_due before counts wanted ≤ units work + owed_after before (steps_due before counts wanted) work
  pub going : is_over work ≡ false

-- the useful steps that are due, in order, or none
pub record IsPacedWork (wanted : ℕ) (old new : Collected) (before after : Pace) (work : Work) : Type 0 where
  pub none : steps_due before (counts_in old) wanted ≡ 0 → (new.core ≡ old.core) × (work ≡ no_work)
  pub some : 1 ≤ steps_due before (counts_in old) wanted → before.words ≡ 0 → IsWork AreFree None None (steps_due before (counts_in old) wanted) old.core new.core work
  -- the same, but where the pace bounds the words, the steps end once there were as many units, or replicas took as many words
  pub within : 1 ≤ steps_due before (counts_in old) wanted → 1 ≤ before.words → IsWork (CountUpTo before.words) None (Some before.words) (min (steps_due before (counts_in old) wanted) before.words) old.core new.core work
  pub paid : Pays before (counts_in old) (steps_due before (counts_in old) wanted)
  pub pace : after ≡ pace_after before (steps_due before (counts_in old) wanted) work (counts_in new)
  -- the entries that remain in all logs, and the steps performed, are at most the steps that were left
  pub logs : CountsAll (counts_in old) → (counts_in new).logged + work.steps + units_of (counts_in old).roots_left ≤ steps_left (counts_in old)
  -- as many steps as are left end the collection, unless the call took its words first
  pub enough : CountsAll (counts_in old) → steps_left (counts_in old) ≤ steps_due before (counts_in old) wanted → HasEnded new.core work ⊎ IsTrue (took_its_words before work)
  -- it took no more looks than were left, and unless it flipped, each leaves one less
  pub looks : HaveFallen old.roots_left new.roots_left work
  -- a call performs no more units than were left, and each lowers them by one, unless the call ended the collection
  pub few : units work ≤ units_left old
  pub falls : is_over work ≡ false → units_left new + units work ≤ units_left old
  -- The call that begins a collection leaves at most as much work as the heap's end, and the units of all looks. Any other lowers the work that is left
  -- by the steps that were owed and by what was spent since the call before, but for the steps that it owes. All logs together have fewer entries
  -- than that work.
  pub begun : (counts_in old).is_open ≡ 0 → 1 ≤ work.steps → is_over work ≡ false → units_left new ≤ (counts_in old).end + units_of (counts_in old).roots_left
  pub ahead : WorkGoesOn wanted (counts_in old) before work → units_left new ≤ after.owed + (units_left old - (before.owed + spent before (counts_in old)))
  pub fewer : (counts_in new).logged < work_left new.core
