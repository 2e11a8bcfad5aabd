-- How long a mutator's log gets.
use Rattle.std.specs.Prelude.{◌≡◌, ◌≤◌, ℕ, ◌+◌, List, [], ◌∷◌}
use Rattle.gc_graph.specs.declared.command.Op.{Op}
use Rattle.gc_graph.specs.declared.command.Op.TheVariants as ops
use Rattle.gc_concurrent.specs.Moves.{Situation, StaysOrFlips}

-- how many fields the command writes at most
abbrev pub writes_of : Op → ℕ
writes_of (ops.Put s i t) = 1
writes_of op = 0

-- what a mutator's program does: a call that writes so many fields at most, or a safepoint
pub data Doing : Type 0 where
  Writes : (fields : ℕ) → Doing
  Safepoint : Doing

-- how many fields these write at most
abbrev pub fields_written : List Doing → ℕ
fields_written [] = 0
fields_written (Writes n ∷ rest) = n + fields_written rest
fields_written (Safepoint ∷ rest) = fields_written rest

-- These lead from the one situation to the other: a call adds to the log at most the fields that it writes, and a safepoint is as `StaysOrFlips` says.
abbrev pub RunsTo : List Doing → Situation → Situation → Type 0
RunsTo [] old new = new ≡ old
RunsTo (Writes n ∷ rest) old new = (mid : Situation) × (mid.logged ≤ old.logged + n) × RunsTo rest mid new
RunsTo (Safepoint ∷ rest) old new = (mid : Situation) × StaysOrFlips old mid × RunsTo rest mid new
