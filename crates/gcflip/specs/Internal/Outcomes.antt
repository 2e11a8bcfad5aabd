-- The statuses and faults with which a task may end.
use Rattle.std.specs.Prelude.{◌≡◌, ◌⊎◌, ℕ, ⊤}
use Rattle.gcflip.specs.declared.faults.fault.Fault.{Fault}
use Rattle.gcflip.specs.declared.faults.fault.Fault.TheVariants as fault
use Rattle.gcflip.specs.declared.task.Task.{Task}
use Rattle.gcflip.specs.declared.task.Task.TheVariants as task
use Rattle.gcflip.specs.Outcomes.{IsOfPlay, IsOfCheck, IsOfThreads}

-- only a refusal has status 1
abbrev pub IsStatusOf : Task → ℕ → Type 0
IsStatusOf (task.Check file) status = (status ≡ 0) ⊎ (status ≡ 1)
IsStatusOf asked status = status ≡ 0

-- the file could not be opened
abbrev pub IsOfOpening : Fault → Type 0
IsOfOpening fault.Open = ⊤
IsOfOpening fault.NoMemory = ⊤
IsOfOpening f = ⊥

-- the faults that a task may have; standard input needs no opening
abbrev pub IsTaskFault : Task → Fault → Type 0
IsTaskFault task.PlayInput f = IsOfPlay f
IsTaskFault (task.Check file) f = IsOfOpening f ⊎ IsOfCheck f
IsTaskFault (task.Threads file turns) f = IsOfOpening f ⊎ IsOfThreads f
IsTaskFault asked f = IsOfOpening f ⊎ IsOfPlay f
