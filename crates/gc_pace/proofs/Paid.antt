-- Each step owed, each word allocated and each entry logged is paid for by a step, unless fewer steps are left.
use Rattle.std.proofs.lemmas.Grind.{common_steps}
use Rattle.std.proofs.Common.{◌≡◌, ℕ, ◌*◌, ◌≤◌, ◌==◌, false, arith}
use Rattle.std.proofs.lemmas.Bool.{eqb-true}
use Rattle.std.proofs.lemmas.Nat.{mul-le}
use Rattle.gc_pace.specs.Pace.{steps_due, Pays}
use Rattle.gc_pace.specs.declared.pace.Pace.{Pace}
use Rattle.gc_pace.specs.declared.counts.Counts.{Counts}

pub not_zero : (n : ℕ) → (n == 0) ≡ false → 1 ≤ n
not_zero n e = grind (arith, common_steps)

times : (a b : ℕ) → 1 ≤ b → a ≤ a * b
times a b some = omega (arith, mul-le a 1 a b (omega arith) some)

pub paid : (pace : Pace) (counts : Counts) (wanted : ℕ) → Pays pace counts (steps_due pace counts wanted)
paid pace counts wanted is_open = grind (arith, common_steps, times, not_zero, eqb-true)
