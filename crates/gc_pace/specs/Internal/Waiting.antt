-- The memory that waits after useful steps.
use Rattle.std.specs.Prelude.{◌≡◌, ◌⊎◌, ℕ, Bool, true, Option, IfSome, IsTrue}
use Rattle.gc_model.specs.State.{State}
use Rattle.gc_model.specs.declared.step.Step.TheVariants.{Flip}
use Rattle.gc_collected.specs.Collected.{Collected, Rooms, Beside, checks_whole}
use Rattle.gc_collected.specs.CollectedHeap.{Allocates}
use Rattle.gc_collected.specs.declared.flip.Keep.TheVariants.{Room}
use Rattle.gc_pace.specs.Beside.{HaveRooms}

-- If a collection is open, the useful step lacked memory because it is a flip that has to check both spaces whole. Nothing leaves any more.
abbrev pub HasLacked : Collected → Rooms → Type 0
HasLacked h new = IfSome h.core.collection (λ _. IsTrue (checks_whole Room h.beside.turns) × Allocates h.core Flip × (new ≡ record h.beside.rooms { leaving = 0 }))

-- the rooms after useful steps that lead to the state t: a flip behind them may have been refused memory
abbrev pub HaveRun : Option ℕ → State → State → Beside → Bool → Rooms → Type 0
HaveRun size s t b flips new = HaveRooms size s b flips new ⊎ (IsTrue (checks_whole Room b.turns) × Allocates t Flip × HaveRooms size s b true new)
