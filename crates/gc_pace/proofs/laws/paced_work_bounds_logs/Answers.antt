-- Turn by turn, the steps of paced work pay for what the commands added, so neither the work nor the logs pass the bound by more than is owed.
use Rattle.gc_pace.proofs.Turns.{turns_work, turns_logs, turns_owe}
use Rattle.gc_pace.proofs.laws.paced_work_bounds_logs.Goals as goal

pub returns : goal.returns
returns c = record { work = turns_work; logs = turns_logs; owes = λ heap pace turns k free none. (turns_owe heap pace turns k free none).1 }
