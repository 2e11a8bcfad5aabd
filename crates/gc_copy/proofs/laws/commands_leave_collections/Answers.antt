-- A command other than `Put` writes no field, so an open collection needs no log entry, and no command sets a link.
use Rattle.gc_copy.proofs.Mutating.{open_left, idle_left, still_unlinked}
use Rattle.gc_copy.proofs.laws.commands_leave_collections.Goals as goal

pub returns : goal.returns
returns c = record { collecting = open_left; idle = idle_left; linked = still_unlinked }
