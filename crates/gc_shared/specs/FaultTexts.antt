-- The texts of the faults of closing and of running scripts.
use Rattle.std.specs.Prelude.{ℕ, List, ◌++◌, codes, decimal}
use Rattle.gc_shared.specs.declared.fault.CloseKind.{CloseKind}
use Rattle.gc_shared.specs.declared.fault.CloseKind.TheVariants as close
use Rattle.gc_shared.specs.declared.fault.ThreadsFault.{ThreadsFault}
use Rattle.gc_shared.specs.declared.fault.ThreadsFault.TheVariants as threads

abbrev pub close_kind_text : CloseKind → List ℕ
close_kind_text close.Seats = codes "close: seats"
close_kind_text (close.Torn seat n) = (codes "close: torn seat " ++ decimal seat) ++ (codes " receipt " ++ decimal n)
close_kind_text close.Extra = codes "close: extra"
close_kind_text close.NoMemory = codes "no memory"

abbrev pub threads_fault_text : ThreadsFault → List ℕ
threads_fault_text threads.NotStarted = codes "threads: not started"
threads_fault_text (threads.Gate seat n) = (codes "threads: gate at seat " ++ decimal seat) ++ (codes " call " ++ decimal n)
threads_fault_text threads.NoMemory = codes "no memory"
threads_fault_text (threads.Close kind) = close_kind_text kind
