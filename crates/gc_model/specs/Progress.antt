-- What an open collection has left to do, as a number of steps.
use Rattle.std.specs.Prelude.{◌≡◌, ◌≢◌, ◌⊎◌, ℕ, zero, suc, ◌+◌, ◌-◌, ◌<◌, nat_lt, if◌then◌else◌, List, length, IsTrue}
use Rattle.std.specs.List.{sum_by}
use Rattle.std.specs.Option.{option_map_or}
use Rattle.gc_model.specs.State.{Replica, Collection, State, heap_end, new_end}
use Rattle.gc_model.specs.Steps.{collect, is_change, useful_step}
use Rattle.gc_model.specs.declared.step.Step.{Step}
use Rattle.gc_model.specs.declared.step.Step.TheVariants as steps
use Rattle.gc_model.specs.declared.step.StepReply.{StepReply}
use Rattle.gc_model.specs.declared.step.StepReply.TheVariants.{NoRoom, Flipped}

-- the entries in these logs
abbrev pub entries_in : List (List (ℕ × ℕ)) → ℕ
entries_in logs = sum_by (λ log. length log) logs

-- the steps that scan this replica: one for each field, and one to pass it; none if it lies before this place
abbrev pub scans_of : ℕ → Replica → ℕ
scans_of place r = if nat_lt r.place place then 0 else length r.object.fields + 1

-- the steps that scan the replicas from this place on
abbrev pub scans_from : ℕ → List Replica → ℕ
scans_from place replicas = sum_by (scans_of place) replicas

-- the same from the scan pointer on
abbrev pub scans_left : Collection → ℕ
scans_left c = scans_from c.scan_place c.replicas - c.scan_field

-- Each word without a replica costs at most one step: an object of n words takes one step for its replica, n - 2 for its fields, and one
-- to pass it.
abbrev pub work_of : State → Collection → ℕ
work_of s c = (heap_end s - new_end c) + scans_left c + entries_in c.logs + 1

-- The work that is left until the flip: the words without a replica, the scans that are left, the log entries, and the flip. If no
-- collection is open, it is that of one that has just begun, and the begin.
abbrev pub work_left : State → ℕ
work_left s = option_map_or (work_of s) s.collection (heap_end s + 1)

-- the entries in all logs
abbrev pub entries_left : State → ℕ
entries_left s = option_map_or (λ c. entries_in c.logs) s.collection 0

-- a step that changes something lowers the number, unless it ends the collection
abbrev pub ChangesLower : State → Type 0
ChangesLower s = (step : Step) → step ≢ steps.Flip → step ≢ steps.Drop → IsTrue (is_change (collect s step).0) → work_left (collect s step).1 < work_left s

-- the useful step lacks room, or flips, or lowers the number
abbrev pub Advances : State → Type 0
Advances s = (let next = collect s (useful_step s) in ((next.0 ≡ NoRoom) ⊎ ((pairs : ℕ) × (next.0 ≡ Flipped pairs))) ⊎ (work_left next.1 < work_left s))

-- the state after this many useful steps
abbrev pub after_steps : ℕ → State → State
after_steps zero s = s
after_steps (suc n) s = after_steps n (collect s (useful_step s)).1

-- the reply to the useful step after this many of them
abbrev pub reply_after : ℕ → State → StepReply
reply_after n s = (let now = after_steps n s in (collect now (useful_step now)).0)

-- one of the next `work_left` useful steps flips, or lacks room
abbrev pub Ends : State → Type 0
Ends s = (n : ℕ) × (n < work_left s) × ((reply_after n s ≡ NoRoom) ⊎ ((pairs : ℕ) × (reply_after n s ≡ Flipped pairs)))
