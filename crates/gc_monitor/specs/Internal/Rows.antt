-- Places in a row that become due, or are no longer due.
use Rattle.std.specs.Prelude.{ℕ, zero, suc, ◌+◌, ◌==◌, Bool, List, slice_index_or, slice_set}
use Rattle.gc_monitor.specs.Internal.Watch.{bit}
use Rattle.gc_monitor.specs.Tables.{Tables}
use Rattle.gc_monitor.specs.Events.{with_due}

-- so many places from p on have this code
abbrev pub row_set : ℕ → List ℕ → ℕ → ℕ → List ℕ
row_set code codes p zero = codes
row_set code codes p (suc n) = row_set code (slice_set codes p code) (suc p) n

-- how many of them have code 3
abbrev pub dues_from : List ℕ → ℕ → ℕ → ℕ
dues_from codes p zero = 0
dues_from codes p (suc n) = bit (slice_index_or codes p 0 == 3) + dues_from codes (suc p) n

-- so many places from p on are due or not, one after the other
abbrev pub with_due_row : Bool → Tables → ℕ → ℕ → Tables
with_due_row due t p zero = t
with_due_row due t p (suc n) = with_due_row due (with_due t p due) (suc p) n
