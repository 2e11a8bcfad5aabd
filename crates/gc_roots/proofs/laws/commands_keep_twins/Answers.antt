-- A command moves no replica, so that each twin but that of the root that it writes stays one.
use Rattle.gc_roots.proofs.Twins.{slot_command, root_command}
use Rattle.gc_roots.proofs.laws.commands_keep_twins.Goals as goal

pub returns-clause-slots : goal.returns-clause-slots
returns-clause-slots c row s m op below k = slot_command row s m op below k

pub returns-clause-roots : goal.returns-clause-roots
returns-clause-roots c row now s m i op at w more high nil k = root_command row now s m i op at w more high nil k
