-- A box of a collected heap over the C library's allocator. Its parts own what it owns, and so does a heap's handle.
use Rattle.std.proofs.lemmas.Grind.{common_steps}
use Rattle.std.proofs.Common.{◌≡◌, Option, Some, IsSome, arith}
use mathlib.Core.List.{[]}
use mir.Syntax.{impl, tnil, dnil}
use denote.RattleType.{RattleType}
use Rattle.gc_model.specs.State.{State}
use denote.Signature.{Slot, plain}
use Rattle.std_alloc.proofs.BoxSteps.Form.{Bx}
use Rattle.std.specs.contracts.alloc.Global as Global
use Rattle.std.specs.contracts.impls.GlobalAllocator.TheImpl.{ghosts, dict}
use Rattle.std.proofs.alloc.Global.TheLaws as global
use Rattle.gc_collected.specs.contracts.collected_heap.CollectedHeap as Heap
use Rattle.gc_collected.proofs.collected_heap.CollectedHeap.TheLaws as heap
use Rattle.gc_in_c.specs.contracts.parts.Parts as Parts
use Rattle.gcflip_heap_c.specs.contracts.handle.GcflipHeap as Handle

abbrev pub heap_box : Bx
heap_box = record { row = Heap.the_row; laws = heap.the_row_laws; al = record { row = Global.the_row; laws = global.the_row_laws; g = ghosts; d = dict; drops = impl [] tnil dnil } }

-- the type of its parts
abbrev pub Held : RattleType
Held = Parts.the_row Heap.the_row Global.the_row ghosts

abbrev pub its_parts : Slot 0
its_parts = plain (λ _. Held)

abbrev pub its_handle : Slot 0
its_handle = plain (λ _. Handle.the_row)

-- the state that a handle has
pub there : (state : Option State) → IsSome state → (live : State) × (state ≡ Some live)
there state is = grind (arith, common_steps)
