-- Each change by a step lowers the number of steps that are left, and a command raises it only by what it allocates and logs.
use Rattle.std.proofs.Common.{rules}
use Rattle.gc_model.proofs.StateLaws.{in_runs}
use Rattle.gc_model.proofs.Progress.{lowers, advances, state_ends, entries_stay, left_bounded, command_raises}
use Rattle.gc_model.proofs.laws.useful_steps_end.Goals as goal

pub returns : goal.returns
returns = search (rules, lowers, advances, entries_stay, state_ends, in_runs, left_bounded, command_raises)
