-- A `Shell` may go to another thread if its allocator may.
use denote.RattleType.{RattleType}
use denote.Param.Send.{IsSend, Frees}
use Rattle.std.specs.declared.alloc.Allocator.{Ghosts}
use Rattle.gc_cells.proofs.Carving.{shell_send}
use Rattle.gc_cells.specs.contracts.shell.Shell as C

pub send : (A : RattleType) (g : Ghosts A.Denot) → IsSend A → Frees g g.dealloc_token → IsSend (C.the_row A g)
send = shell_send
