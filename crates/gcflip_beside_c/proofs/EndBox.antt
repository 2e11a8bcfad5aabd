-- A box of one end of a heap over the C library's allocator. Its parts own what it owns, and so does a handle.
use Rattle.std.proofs.lemmas.Grind.{common_steps}
use Rattle.std.proofs.Common.{◌≡◌, Option, Some, IsSome, arith}
use mathlib.Core.List.{[]}
use mir.Syntax.{impl, tnil, dnil}
use denote.RattleType.{RattleType}
use Rattle.gcflip_beside_c.specs.declared.end.End.{End}
use denote.Signature.{Slot, plain}
use Rattle.std_alloc.proofs.BoxSteps.Form.{Bx}
use Rattle.std.specs.contracts.alloc.Global as Global
use Rattle.std.specs.contracts.impls.GlobalAllocator.TheImpl.{ghosts, dict}
use Rattle.std.proofs.alloc.Global.TheLaws as global
use Rattle.gcflip_beside_c.specs.contracts.end.End as Row
use Rattle.gcflip_beside_c.proofs.end.End.TheLaws as laws
use Rattle.gc_in_c.specs.contracts.parts.Parts as Parts
use Rattle.gcflip_beside_c.specs.contracts.handle.GcflipEnd as Handle

abbrev pub end_box : Bx
end_box = record { row = Row.the_row; laws = laws.the_row_laws; al = record { row = Global.the_row; laws = global.the_row_laws; g = ghosts; d = dict; drops = impl [] tnil dnil } }

-- the type of its parts
abbrev pub Held : RattleType
Held = Parts.the_row Row.the_row Global.the_row ghosts

abbrev pub its_parts : Slot 0
its_parts = plain (λ _. Held)

abbrev pub its_handle : Slot 0
its_handle = plain (λ _. Handle.the_row)

-- the end that a handle has
pub there : (end : Option End) → IsSome end → (live : End) × (end ≡ Some live)
there end is = grind (arith, common_steps)
