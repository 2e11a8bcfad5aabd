-- Many calls of paced work, with commands of mutators between them.
use Rattle.std.specs.Prelude.{◌≡◌, ◌⊎◌, ℕ, ◌+◌, ◌-◌, ◌<◌, ◌≤◌, false, List, [], ◌∷◌, ⊤}
use Rattle.std.specs.List.{AllByRecursion}
use Rattle.gc_graph.specs.declared.command.Op.{Op}
use Rattle.gc_model.specs.State.{State}
use Rattle.gc_model.specs.Steps.{mutate}
use Rattle.gc_model.specs.Runs.{HasRange}
use Rattle.gc_model.specs.Progress.{entries_left}
use Rattle.gc_collected.specs.Collected.{Collected}
use Rattle.gc_pace.specs.Pace.{WorkGoesOn, HasEnded, IsPacedWork, owed_after, steps_due, steps_left, units_left}
use Rattle.gc_pace.specs.Counts.{counts_in}
use Rattle.gc_pace.specs.Work.{is_over, units}
use Rattle.gc_pace.specs.declared.pace.Pace.{Pace}
use Rattle.gc_pace.specs.declared.work.Work.{Work}

-- Commands, each with its mutator, and then a call of paced work: the heap as it finds it, the words wanted, what it did, and the heap and the pace
-- after it.
pub record Turn : Type 0 where
  pub commands : List (ℕ × Op)
  pub found : Collected
  pub wanted : ℕ
  pub work : Work
  pub heap : Collected
  pub pace : Pace

abbrev pub after_commands : State → List (ℕ × Op) → State
after_commands s [] = s
after_commands s (command ∷ rest) = after_commands (mutate s command.0 command.1).1 rest

-- each mutator exists, and each command's numbers are in range
abbrev pub AreCommands : ℕ → List (ℕ × Op) → Type 0
AreCommands mutators commands = AllByRecursion (λ command. (command.0 < mutators) × HasRange command.1) commands

-- The turn begins with this heap and this pace. The collection is open before and after its call.
pub record IsTurn (heap : Collected) (pace : Pace) (turn : Turn) : Type 0 where
  pub commands : AreCommands heap.core.mutators turn.commands
  pub found : turn.found.core ≡ after_commands heap.core turn.commands
  pub work : IsPacedWork turn.wanted turn.found turn.heap pace turn.pace turn.work
  pub goes_on : WorkGoesOn turn.wanted (counts_in turn.found) pace turn.work

abbrev pub AreTurns : Collected → Pace → List Turn → Type 0
AreTurns heap pace [] = ⊤
AreTurns heap pace (turn ∷ turns) = IsTurn heap pace turn × AreTurns turn.heap turn.pace turns

-- the heap and the pace after these turns
abbrev pub after_turns : Collected → Pace → List Turn → Collected × Pace
after_turns heap pace [] = (heap, pace)
after_turns heap pace (turn ∷ turns) = after_turns turn.heap turn.pace turns

-- the work that is left, in units, but for the steps that the pace owes
abbrev pub unpaid : Collected → Pace → ℕ
unpaid heap pace = units_left heap - pace.owed

-- before each call no more steps are left than a call can perform
abbrev pub AreFew : List Turn → Type 0
AreFew turns = AllByRecursion (λ (turn : Turn). steps_left (counts_in turn.found) ≤ 4294967295) turns

-- the pace remembers the counts of this heap
pub record Remembers (pace : Pace) (heap : Collected) : Type 0 where
  pub end : pace.end ≡ (counts_in heap).end
  pub logged : pace.logged ≡ (counts_in heap).logged
  pub roots : pace.roots ≡ heap.roots_left

-- the steps follow from the counts, no call is bounded, and no step is owed
pub record IsUnbounded (pace : Pace) : Type 0 where
  pub rate : pace.rate ≡ 0
  pub words : pace.words ≡ 0
  pub owed : pace.owed ≡ 0

-- from one heap to the other at most this many words were allocated, this many entries logged, and the looks that are left rose by at most this many
pub record HaveTaken (words entries looks : ℕ) (old new : Collected) : Type 0 where
  pub allocated : old.core.heap.free ≤ new.core.heap.free + words
  pub logged : entries_left new.core ≤ entries_left old.core + entries
  pub stored : new.roots_left ≤ old.roots_left + looks

-- ---- calls that may be bounded

-- A turn whose call neither flips nor lacks room. If no collection is open and steps are due, it begins one. If one is open, it performs the steps
-- that are due, or looks take their place, or it owes them.
pub record IsPacedCall (heap : Collected) (pace : Pace) (turn : Turn) : Type 0 where
  pub commands : AreCommands heap.core.mutators turn.commands
  pub found : turn.found.core ≡ after_commands heap.core turn.commands
  pub work : IsPacedWork turn.wanted turn.found turn.heap pace turn.pace turn.work
  pub going : is_over turn.work ≡ false
  pub begins : (counts_in turn.found).is_open ≡ 0 → 1 ≤ steps_due pace (counts_in turn.found) turn.wanted → 1 ≤ turn.work.steps
  pub performed : 1 ≤ (counts_in turn.found).is_open → (let due = steps_due pace (counts_in turn.found) turn.wanted in due ≤ units turn.work + owed_after pace due turn.work)

abbrev pub ArePacedCalls : Collected → Pace → List Turn → Type 0
ArePacedCalls heap pace [] = ⊤
ArePacedCalls heap pace (turn ∷ turns) = IsPacedCall heap pace turn × ArePacedCalls turn.heap turn.pace turns

-- In each turn the commands take at most so many words, entries and looks, its call wants no more words, and it leaves at most `roots` looks.
abbrev pub TakeAtMost : ℕ → ℕ → ℕ → ℕ → Collected → List Turn → Type 0
TakeAtMost words entries looks roots heap [] = ⊤
TakeAtMost words entries looks roots heap (turn ∷ turns) =
    HaveTaken words entries looks heap turn.found × (turn.wanted ≤ words) × (turn.heap.roots_left ≤ roots) × TakeAtMost words entries looks roots turn.heap turns

-- Where the program takes no more than this, its next call finds more room than it wants, or it ends the collection.
abbrev pub FindsRoom : ℕ → ℕ → ℕ → Collected → Pace → Type 0
FindsRoom words entries looks heap pace =
    (commands : List (ℕ × Op)) (wanted : ℕ) (found new : Collected) (after : Pace) (work : Work)
    → AreCommands heap.core.mutators commands → found.core ≡ after_commands heap.core commands → HaveTaken words entries looks heap found → wanted ≤ words
    → IsPacedWork wanted found new pace after work → (wanted < (counts_in found).free) ⊎ HasEnded new.core work

-- The heap has just flipped: no collection is open, and the pace remembers what the flip left.
pub record HasJustFlipped (heap : Collected) (pace : Pace) : Type 0 where
  pub closed : (counts_in heap).is_open ≡ 0
  pub left : pace.left ≡ (counts_in heap).end
  pub remembers : Remembers pace heap

-- the pace that C's programs begin with, whichever counts it remembers
pub record IsDefault (pace : Pace) : Type 0 where
  pub factor : pace.factor ≡ 200
  pub rate : pace.rate ≡ 0
  pub least : pace.least ≡ 65536
  pub words : pace.words ≡ 1024
