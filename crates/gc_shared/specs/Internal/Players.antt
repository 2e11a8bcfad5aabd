-- What the threads of a run promise to return.
use Rattle.std.specs.Prelude.{◌≡◌, ℕ, List, length, ◌<◌, ◌+◌, slice_index_or}
use Rattle.std.specs.declared.vec.Vec.{Vec}
use Rattle.std.specs.declared.alloc.Global.{Global}
use Rattle.std.specs.declared.result.Result.{Result}
use Rattle.std.specs.declared.thread.PromisedHandle.{PromisedHandle}
use Rattle.gc_graph.specs.declared.command.Op.{Op}
use Rattle.gc_shared.specs.Seats.{SeatValue}
use Rattle.gc_shared.specs.declared.fault.ThreadsFault.{ThreadsFault}
use Rattle.gc_shared.specs.declared.threads.Plays.{Plays}
use Rattle.gc_shared.specs.Scripts.{script_at}

abbrev pub Player : Type 0
Player = PromisedHandle (Result SeatValue ThreadsFault) Plays

-- the thread promises to run script m with seat m
abbrev pub IsToPlay : List (Vec Op Global) → ℕ → Player → Type 0
IsToPlay scripts m h = (h.promise.number ≡ m) × (h.promise.script.now ≡ script_at scripts m)

-- these threads promise to run scripts a, a + 1, .., in order
abbrev pub AreNext : List (Vec Op Global) → ℕ → List Player → Type 0
AreNext scripts a players = (k : ℕ) (d : Player) → k < length players → IsToPlay scripts (a + k) (slice_index_or players k d)

-- thread m promises to run script m with seat m
abbrev pub AreToPlay : List (Vec Op Global) → List Player → Type 0
AreToPlay scripts players = (m : ℕ) (d : Player) → m < length players → IsToPlay scripts m (slice_index_or players m d)
