-- What a handle owns: nothing if it is null, otherwise the box of a heap.
use Rattle.std.specs.Prelude.{ℕ, Option, Some, None, refl}
use base.Fml.{Fml, feq}
use base.Stored.{Coded}
use denote.RawPtr.{Ptr, null_ptr}
use Rattle.std.specs.Coded.{code_by, coded_option}
use Rattle.std.specs.Box.Ownership.{box_owns}
use Rattle.std.specs.declared.alloc.Global.{Global}
use Rattle.std.specs.contracts.impls.GlobalAllocator.TheImpl.{ghosts}
use Rattle.gc_model.specs.State.{State, opening_state}
use Rattle.gc_collected.specs.Collected.{Beside, Collected, opening_beside}
use Rattle.gc_collected.specs.contracts.collected_heap.CollectedHeap.{the_row}
use Rattle.gc_collected.specs.declared.checks.Checking.TheVariants.{AtFlip}

-- the heap in the box has this state, this beside it, and so many looks that are left
abbrev pub owns_heap : Global → Ptr → Option State → Beside → ℕ → Fml
owns_heap alloc at None beside left = feq Ptr at null_ptr
owns_heap alloc at (Some state) beside left = box_owns (ghosts.dealloc_token alloc) the_row at (record { core = state; beside = beside; roots_left = left })

-- A state is stored as a heap with a constant beside it, what is beside a state as a heap with a constant state, and the looks that are left as a heap
-- with both.
abbrev pub coded_state : Coded (Option State)
coded_state = coded_option (code_by Collected the_row.coded (λ s. record { core = s; beside = opening_beside AtFlip; roots_left = 0 }) (λ h. h.core) (λ _. refl))

abbrev pub coded_beside : Coded Beside
coded_beside = code_by Collected the_row.coded (λ b. record { core = opening_state 1 1; beside = b; roots_left = 0 }) (λ h. h.beside) (λ _. refl)

abbrev pub coded_roots_left : Coded ℕ
coded_roots_left = code_by Collected the_row.coded (λ n. record { core = opening_state 1 1; beside = opening_beside AtFlip; roots_left = n }) (λ h. h.roots_left) (λ _. refl)
