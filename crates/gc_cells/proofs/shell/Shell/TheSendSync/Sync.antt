-- Threads may share a `Shell`, since a `&` to it gives nothing.
use denote.RattleType.{RattleType}
use denote.Param.Send.{IsSync}
use Rattle.std.specs.declared.alloc.Allocator.{Ghosts}
use Rattle.gc_cells.proofs.Carving.{shell_sync}
use Rattle.gc_cells.specs.contracts.shell.Shell as C

pub sync : (A : RattleType) (g : Ghosts A.Denot) → IsSync (C.the_row A g)
sync = shell_sync
