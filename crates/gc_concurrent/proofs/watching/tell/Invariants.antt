-- The entries before this one were told.
use Rattle.std.proofs.Common.{ℕ, IsFalse, IsTrue}
use Rattle.std.specs.Prelude.{slice_index, take}
use Rattle.gc_model.specs.Members.{In}
use Rattle.gc_monitor.specs.Claims.{CanWriteAt}
use Rattle.gc_concurrent.specs.Moves.{half}
use Rattle.gc_concurrent.specs.Internal.Following.{WroteEach}
use Rattle.gc_concurrent.proofs.watching.tell.Given as goal

abbrev pub invariant-loop-k : goal.invariant-loop-k
invariant-loop-k l = (IsTrue l.fn.standing.lost → IsTrue l.standing.lost) × (IsFalse l.standing.lost → WroteEach (take l.k l.log) l.fn.standing l.standing)
    × IsFalse l.standing.lost × ((a i : ℕ) → In {X = ℕ × ℕ} (a, i) l.log → CanWriteAt a i (slice_index l.claims (half a)) l.standing)
