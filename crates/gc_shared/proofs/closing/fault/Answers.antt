-- Taking the seats by their numbers finds the first fault of the comparison, or none if the seats and the history agree.
use Rattle.std.proofs.lemmas.Grind.{common_steps}
use Rattle.std.proofs.Common.{arith}
use Rattle.gc_shared.proofs.SeatNumbers.{first_fault_of}
use Rattle.gc_shared.proofs.closing.fault.Goals as goal

pub returns-in-Ok : goal.returns-in-Ok
returns-in-Ok c = grind (arith, common_steps, first_fault_of)
